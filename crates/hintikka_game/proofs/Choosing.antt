-- The alternatives of each form of sentence, their number, and the choices among them.
use Rattle.std.proofs.Common.{◌≡◌, ℕ, zero, suc, ◌+◌, ◌-◌, ◌<◌, ◌≤◌, max, List, [], ◌∷◌, length, get_or, drop, map, refl, ap, sym, ◌∙◌, Bool, true, false, rules, arith, length-drop}
use Rattle.std.proofs.lemmas.List.{drop_more, nil_from_length}
use Rattle.std.specs.Prelude.{not, ◌≢◌, if◌then◌else◌}
use Rattle.std.specs.List.{range_with_len}
use Rattle.fol_core.specs.Word.{Word}
use Rattle.fol_core.specs.Size.{greatest}
use Rattle.fol_core.specs.declared.sent.Sent.{Sent, out-Sent, the_lemmas}
use Rattle.fol_core.specs.declared.sent.Sent.TheVariants as s
use Rattle.fol_core.specs.declared.sent.Sent.TheOpen as f
use Rattle.worlds.specs.declared.block.Block.{Block}
use Rattle.worlds.specs.Worlds.{numbers}
use Rattle.hintikka_game.specs.declared.position.Position.{Position}
use Rattle.hintikka_game.specs.declared.turn.Turn.TheVariants as turns
use Rattle.hintikka_game.specs.Positions.{Player, Computer, verifier, falsifier, nexts, nexts_at, at_sentence, at_block, is_kept}
use Rattle.hintikka_game.specs.Turns.{first_lost, machine_choice, turn_by}
use Rattle.hintikka_game.specs.Width.{widest}
use Rattle.hintikka_game.specs.Wins.{wins}
use Rattle.hintikka_game.proofs.Winning.{wins_is_kept}

pub other_side : (c : Bool) → falsifier c ≡ verifier (not c)
other_side true = refl
other_side false = refl

pub turn_none : (w : List Block) (p : Position) (b : Bool) (ps : List Position) → length ps ≡ 0 → turn_by w p (verifier b) ps ≡ turns.Over (not b)
turn_none w p true [] e = refl
turn_none w p false [] e = refl
turn_none w p b (q ∷ qs) e = absurd (omega (arith, e))

pub turn_you : (w : List Block) (p : Position) (ps : List Position) → length ps ≢ 0 → turn_by w p Player ps ≡ turns.You (length ps)
turn_you w p [] n = absurd (n refl)
turn_you w p (q ∷ qs) n = refl

pub turn_machine : (w : List Block) (p : Position) (ps : List Position) → length ps ≢ 0 → turn_by w p Computer ps ≡ turns.Machine (machine_choice w ps)
turn_machine w p [] n = absurd (n refl)
turn_machine w p (q ∷ qs) n = refl

length_map : {X Y : Type 0} (h : X → Y) (xs : List X) → length (map h xs) ≡ length xs
length_map h [] = refl
length_map h (x ∷ xs) = ap suc (length_map h xs)

length_range : (a n : ℕ) → length (range_with_len a n) ≡ n
length_range a zero = refl
length_range a (suc n) = ap suc (length_range (a + 1) n)

pub count_parts : (p : Position) (qs : List Sent) → length (map (at_sentence p) qs) ≡ length qs
count_parts p qs = length_map (at_sentence p) qs

pub count_blocks : (w : List Block) (p : Position) (x : Word) (q : Sent) → length (map (at_block p x q) (numbers w)) ≡ length w
count_blocks w p x q = length_map (at_block p x q) (numbers w) ∙ length_range 1 (length w)

pub wide_and : (ps : List Sent) → length ps ≤ widest (s.And ps)
wide_and ps = let e : widest (s.And ps) ≡ max (length (map widest ps)) (greatest (map widest ps)) = search (rules, the_lemmas) in omega (arith, e, length_map widest ps)

pub wide_or : (ps : List Sent) → length ps ≤ widest (s.Or ps)
wide_or ps = let e : widest (s.Or ps) ≡ max (length (map widest ps)) (greatest (map widest ps)) = search (rules, the_lemmas) in omega (arith, e, length_map widest ps)

get_or-map : {X Y : Type 0} (h : X → Y) (xs : List X) (i : ℕ) (x : X) (y : Y) → i < length xs → get_or (map h xs) i y ≡ h (get_or xs i x)
get_or-map h [] i x y l = absurd (omega (arith, l))
get_or-map h (z ∷ zs) zero x y l = refl
get_or-map h (z ∷ zs) (suc i) x y l = get_or-map h zs i x y (omega (arith, l))

get_or-range : (a n i d : ℕ) → i < n → get_or (range_with_len a n) i d ≡ a + i
get_or-range a zero i d l = absurd (omega (arith, l))
get_or-range a (suc n) zero d l = omega arith
get_or-range a (suc n) (suc i) d l = get_or-range (a + 1) n i d (omega (arith, l)) ∙ omega arith

pub part_at : (p d : Position) (qs : List Sent) (q : Sent) (i : ℕ) → i < length qs → get_or (map (at_sentence p) qs) i d ≡ at_sentence p (get_or qs i q)
part_at p d qs q i l = get_or-map (at_sentence p) qs i q d l

pub block_numbered : (w : List Block) (p d : Position) (x : Word) (q : Sent) (n : ℕ) → 1 ≤ n → n ≤ length w →
    get_or (map (at_block p x q) (numbers w)) (n - 1) d ≡ at_block p x q n
block_numbered w p d x q n h l =
    get_or-map (at_block p x q) (numbers w) (n - 1) 0 d (omega (arith, length_range 1 (length w), h, l))
    ∙ ap (at_block p x q) (get_or-range 1 (length w) (n - 1) 0 (omega (arith, h, l)) ∙ omega (arith, h))

-- The alternatives of each form in which there is a choice.
pub all_block : (w : List Block) (p : Position) (x : Word) (q : Sent) (n : ℕ) → 1 ≤ n → n ≤ length (nexts w p) → p.sentence ≡ s.All x q →
    get_or (nexts w p) (n - 1) p ≡ at_block p x q n
all_block w p x q n h l e =
    let o : out-Sent (s.All x q) ≡ f.All x q = search (rules, the_lemmas) in
    let k : nexts w p ≡ map (at_block p x q) (numbers w) = ap (nexts_at w p) (ap out-Sent e ∙ o) in
    ap (λ ps. get_or ps (n - 1) p) k ∙ block_numbered w p p x q n h (omega (arith, l, ap length k, count_blocks w p x q))

pub ex_block : (w : List Block) (p : Position) (x : Word) (q : Sent) (n : ℕ) → 1 ≤ n → n ≤ length (nexts w p) → p.sentence ≡ s.Ex x q →
    get_or (nexts w p) (n - 1) p ≡ at_block p x q n
ex_block w p x q n h l e =
    let o : out-Sent (s.Ex x q) ≡ f.Ex x q = search (rules, the_lemmas) in
    let k : nexts w p ≡ map (at_block p x q) (numbers w) = ap (nexts_at w p) (ap out-Sent e ∙ o) in
    ap (λ ps. get_or ps (n - 1) p) k ∙ block_numbered w p p x q n h (omega (arith, l, ap length k, count_blocks w p x q))

pub and_part : (w : List Block) (p : Position) (qs : List Sent) (q : Sent) (n : ℕ) → 1 ≤ n → n ≤ length (nexts w p) → p.sentence ≡ s.And qs →
    get_or (nexts w p) (n - 1) p ≡ at_sentence p (get_or qs (n - 1) q)
and_part w p qs q n h l e =
    let o : out-Sent (s.And qs) ≡ f.And qs = search (rules, the_lemmas) in
    let k : nexts w p ≡ map (at_sentence p) qs = ap (nexts_at w p) (ap out-Sent e ∙ o) in
    ap (λ ps. get_or ps (n - 1) p) k ∙ part_at p p qs q (n - 1) (omega (arith, h, l, ap length k, count_parts p qs))

pub or_part : (w : List Block) (p : Position) (qs : List Sent) (q : Sent) (n : ℕ) → 1 ≤ n → n ≤ length (nexts w p) → p.sentence ≡ s.Or qs →
    get_or (nexts w p) (n - 1) p ≡ at_sentence p (get_or qs (n - 1) q)
or_part w p qs q n h l e =
    let o : out-Sent (s.Or qs) ≡ f.Or qs = search (rules, the_lemmas) in
    let k : nexts w p ≡ map (at_sentence p) qs = ap (nexts_at w p) (ap out-Sent e ∙ o) in
    ap (λ ps. get_or ps (n - 1) p) k ∙ part_at p p qs q (n - 1) (omega (arith, h, l, ap length k, count_parts p qs))

-- The search for the machine's choice, from one alternative to the next.
one_on : (w : List Block) (ps : List Position) (i : ℕ) (d : Position) → i < length ps →
    first_lost w (i + 1) (drop i ps) ≡ (if wins w (get_or ps i d) then first_lost w (i + 1 + 1) (drop (i + 1) ps) else i + 1)
one_on w ps i d l = ap (first_lost w (i + 1)) (drop_more ps i d l)

last_step : (w : List Block) (ps : List Position) (i : ℕ) (d : Position) (b : Bool) → b ≡ not (is_kept w (get_or ps (i + 1 - 1) d)) → wins w (get_or ps i d) ≡ not b
last_step w ps i d b e =
    let j : i + 1 - 1 ≡ i = omega arith in
    wins_is_kept w (get_or ps i d) ∙ twice (is_kept w (get_or ps i d)) ∙ ap not (sym (e ∙ ap (λ k. not (is_kept w (get_or ps k d))) j))
  where
    twice : (c : Bool) → c ≡ not (not c)
    twice true = refl
    twice false = refl

pub not_found : (w : List Block) (ps : List Position) (i : ℕ) (d : Position) (b : Bool) → i < length ps → b ≡ not (is_kept w (get_or ps (i + 1 - 1) d)) → b ≡ false →
    first_lost w (i + 1) (drop i ps) ≡ first_lost w (i + 1 + 1) (drop (i + 1) ps)
not_found w ps i d b l e k = one_on w ps i d l
    ∙ ap (λ (c : Bool). if c then first_lost w (i + 1 + 1) (drop (i + 1) ps) else i + 1) (last_step w ps i d b e ∙ ap not k)

pub is_found : (w : List Block) (ps : List Position) (i : ℕ) (d : Position) (b : Bool) → i < length ps → b ≡ not (is_kept w (get_or ps (i + 1 - 1) d)) → b ≡ true →
    first_lost w (i + 1) (drop i ps) ≡ i + 1
is_found w ps i d b l e k = one_on w ps i d l
    ∙ ap (λ (c : Bool). if c then first_lost w (i + 1 + 1) (drop (i + 1) ps) else i + 1) (last_step w ps i d b e ∙ ap not k)

pub none_found : (w : List Block) (ps : List Position) (i n : ℕ) → length ps ≤ i → first_lost w n (drop i ps) ≡ 1
none_found w ps i n l = ap (first_lost w n) (nil_from_length (drop i ps) (omega (arith, length-drop i ps)))
