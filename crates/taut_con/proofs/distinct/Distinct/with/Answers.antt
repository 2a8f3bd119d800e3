-- With one sentence more, they are found by their digests.
use Rattle.std.proofs.Common.{◌≡◌, [], ◌∷◌, ◌++◌, length, sym, ap, subst, ◌∙◌, Some}
use Rattle.std.specs.Ordering.{nat_cmp}
use Rattle.std.specs.BTreeMap.{Updates}
use Rattle.taut_con.specs.inside.Indexed.{IsIndexed}
use Rattle.taut_con.proofs.ByDigest.{indexed_more}
use Rattle.taut_con.proofs.distinct.Distinct.with.Goals as goal

pub invariant_of-result-2 : goal.invariant_of-result-2
invariant_of-result-2 c =
    let ss = c.self.inside.sentences in
    let q = c.args.s.now in
    let b = c.latest_with-number.result in
    let own = c.digest-own.result in
    let whole : c.add.new.self ≡ ss ++ q ∷ [] = c.in_ok-add.ensures.ok ∙ ap (λ x. ss ++ x ∷ []) c.in_ok-copy.ensures.value in
    subst (λ xs. IsIndexed xs c.push.new.self.items c.insert.new.self) (sym whole)
    (subst (λ xs. IsIndexed (ss ++ q ∷ []) xs c.insert.new.self) (sym c.in_ok-push.ensures.items)
    (indexed_more ss c.self.inside.earlier.items c.self.inside.latest c.insert.new.self q b own c.self.invariant c.digest-own.ensures.value (c.latest_with-number.ensures.value ∙ c.self.invariant.heads own)
    (subst (λ n. Updates nat_cmp c.self.inside.latest c.insert.new.self own (Some n)) (c.len.ensures.value ∙ ap length whole) c.in_ok-insert.ensures.updates)))
