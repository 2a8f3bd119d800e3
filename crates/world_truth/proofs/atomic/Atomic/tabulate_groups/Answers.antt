use Rattle.std.proofs.Common.{◌≡◌, ℕ, ◌+◌, ◌*◌, ◌<◌, length, ap, sym, ◌∙◌, subst, arith}
use Rattle.worlds.specs.inside.Extensions.{IsExtension}
use Rattle.world_truth.specs.inside.Digits.{digit_of}
use Rattle.world_truth.specs.inside.Referents.{value_by, ArePairsInColumns}
use Rattle.world_truth.specs.inside.Relations.{about, relates}
use Rattle.world_truth.specs.inside.Tables.{bits_in}
use Rattle.world_truth.proofs.Grouping.{one_group_more}
use Rattle.world_truth.proofs.atomic.Atomic.tabulate_groups.Goals as goal

pub loop-group-init : goal.loop-group-init
loop-group-init c = λ r l. absurd (omega (arith, l))

pub loop-group-preserved : goal.loop-group-preserved
loop-group-preserved c =
    let w = c.args.world.now in
    let columns = c.args.extent.columns in
    let group = c.loop-group.group in
    let count = c.block_count-count.ensures.value in
    let table = c.relate_in_columns.new.sets in
    let pairs = subst (λ (n : ℕ). ArePairsInColumns w c.about-about.result c.in-Some.column columns (group * n) table) count c.relate_in_columns.ensures.value in
    one_group_more (λ r. IsExtension columns (value_by w c.args.self r)) group (length w) c.loop-group.table table c.loop-group.invariant
    (λ m l k within low. pairs m l k within low
    ∙ ap (λ relation. relates w relation (digit_of (length w) c.in-Some.column k + 1) (m + 1)) c.about-about.ensures.value
    ∙ ap (λ (n : ℕ). relates w (about c.in-Some.relation (group + 1)) (digit_of n c.in-Some.column k + 1) (m + 1)) (sym count)
    ∙ c.in-Some.ensures.value w group m k count c.loop-group-test.true (omega (arith, l, count)) ∙ ap (λ (n : ℕ). value_by w c.args.self (group * n + m) k) count)
    (subst (λ (n : ℕ). (r : ℕ) → r < group * n → bits_in table r ≡ bits_in c.loop-group.table r) count c.relate_in_columns.ensures.before)

pub returns : goal.returns
returns c =
    let n = c.block_count-count.result in
    let all : c.loop-group.group ≡ n = omega (arith, c.loop-group-test.false, c.loop-group.auto.group-end) in
    record {
      value = λ _ r l. c.loop-group.invariant r
          (subst (λ (g : ℕ). r < g * length c.args.world.now) (sym all) (subst (λ (m : ℕ). r < n * m) c.block_count-count.ensures.value (subst (λ (m : ℕ). r < m) c.if-extent-count.false l)));
    }
