-- The letters of names, put one by one behind a text.
use Rattle.std.proofs.Common.{◌≡◌, ℕ, ◌+◌, ◌<◌, Bool, true, false, List, [], ◌∷◌, ◌++◌, length, take, get_or, refl, sym, ap, ◌∙◌, append-nil}
use Rattle.std.specs.Prelude.{◌&&◌, not, codes, if◌then◌else◌}
use Rattle.std.specs.List.{filter, flat_map}
use Rattle.std.proofs.lemmas.List.{append_assoc, take_more}
use Rattle.std.proofs.lemmas.List.Elements.{filter-append}
use Rattle.worlds.specs.declared.block.Block.{Block}
use Rattle.world_text.specs.Printed.{with_commas, is_nothing, letter_text, block_text, blocks_text, world_text}

flat_map_one : {X : Type 0} (f : X → List ℕ) (xs : List X) (x : X) → flat_map f (xs ++ x ∷ []) ≡ flat_map f xs ++ f x
flat_map_one f [] x = append-nil (f x)
flat_map_one f (y ∷ ys) x = ap (λ t. f y ++ t) (flat_map_one f ys x) ∙ sym (append_assoc (f y) (flat_map f ys) (f x))

flat_more : (ls : List ℕ) (l : ℕ) → flat_map (λ m. 44 ∷ m ∷ []) (ls ++ l ∷ []) ≡ flat_map (λ m. 44 ∷ m ∷ []) ls ++ 44 ∷ l ∷ []
flat_more [] l = refl
flat_more (k ∷ ks) l = ap (λ t. 44 ∷ k ∷ t) (flat_more ks l)

commas_first : (ls : List ℕ) (l : ℕ) → is_nothing ls ≡ true → with_commas (ls ++ l ∷ []) ≡ with_commas ls ++ l ∷ []
commas_first [] l h = refl
commas_first (k ∷ ks) l h = absurd (cc)

commas_more : (ls : List ℕ) (l : ℕ) → is_nothing ls ≡ false → with_commas (ls ++ l ∷ []) ≡ with_commas ls ++ 44 ∷ l ∷ []
commas_more [] l h = absurd (cc)
commas_more (k ∷ ks) l h = ap (λ t. k ∷ t) (flat_more ks l)

filter_yes : (p : ℕ → Bool) (xs : List ℕ) (i x : ℕ) → i < length xs → x ≡ get_or xs i x → p x ≡ true → filter p (take (i + 1) xs) ≡ filter p (take i xs) ++ x ∷ []
filter_yes p xs i x h e y =
    ap (filter p) (take_more xs i x h ∙ ap (λ z. take i xs ++ z ∷ []) (sym e)) ∙ filter-append p (take i xs) (x ∷ []) ∙ ap (λ t. filter p (take i xs) ++ (if t then x ∷ [] else [])) y

filter_no : (p : ℕ → Bool) (xs : List ℕ) (i x : ℕ) → i < length xs → x ≡ get_or xs i x → p x ≡ false → filter p (take (i + 1) xs) ≡ filter p (take i xs)
filter_no p xs i x h e n =
    ap (filter p) (take_more xs i x h ∙ ap (λ z. take i xs ++ z ∷ []) (sym e)) ∙ filter-append p (take i xs) (x ∷ []) ∙ ap (λ t. filter p (take i xs) ++ (if t then x ∷ [] else [])) n ∙ append-nil (filter p (take i xs))

text_at : (old t t2 : List ℕ) (p : ℕ → Bool) (xs : List ℕ) (i x : ℕ) (is_first b c : Bool) → i < length xs → x ≡ get_or xs i x → t ≡ old ++ with_commas (filter p (take i xs)) →
    is_first ≡ is_nothing (filter p (take i xs)) → t2 ≡ t ++ letter_text b c x → p x ≡ b → is_first ≡ c → t2 ≡ old ++ with_commas (filter p (take (i + 1) xs))
text_at old t t2 p xs i x is_first false c h e ht hf h2 hp hc =
    h2 ∙ append-nil t ∙ ht ∙ ap (λ ls. old ++ with_commas ls) (sym (filter_no p xs i x h e hp))
text_at old t t2 p xs i x is_first true true h e ht hf h2 hp hc =
    h2 ∙ ap (λ s. s ++ x ∷ []) ht ∙ append_assoc old (with_commas (filter p (take i xs))) (x ∷ [])
    ∙ ap (λ s. old ++ s) (sym (commas_first (filter p (take i xs)) x (sym hf ∙ hc))) ∙ ap (λ ls. old ++ with_commas ls) (sym (filter_yes p xs i x h e hp))
text_at old t t2 p xs i x is_first true false h e ht hf h2 hp hc =
    h2 ∙ ap (λ s. s ++ 44 ∷ x ∷ []) ht ∙ append_assoc old (with_commas (filter p (take i xs))) (44 ∷ x ∷ [])
    ∙ ap (λ s. old ++ s) (sym (commas_more (filter p (take i xs)) x (sym hf ∙ hc))) ∙ ap (λ ls. old ++ with_commas ls) (sym (filter_yes p xs i x h e hp))

-- a letter more
pub put_text : (old t t2 : List ℕ) (p : ℕ → Bool) (xs : List ℕ) (i x : ℕ) (is_first : Bool) → i < length xs → x ≡ get_or xs i x → t ≡ old ++ with_commas (filter p (take i xs)) →
    is_first ≡ is_nothing (filter p (take i xs)) → t2 ≡ t ++ letter_text (p x) is_first x → t2 ≡ old ++ with_commas (filter p (take (i + 1) xs))
put_text old t t2 p xs i x is_first h e ht hf h2 = text_at old t t2 p xs i x is_first (p x) is_first h e ht hf h2 refl refl

nothing_more : (ls : List ℕ) (x : ℕ) → is_nothing (ls ++ x ∷ []) ≡ false
nothing_more [] x = refl
nothing_more (l ∷ ls) x = refl

first_at : (p : ℕ → Bool) (xs : List ℕ) (i x : ℕ) (is_first next b : Bool) → i < length xs → x ≡ get_or xs i x → is_first ≡ is_nothing (filter p (take i xs)) →
    next ≡ (is_first && not b) → p x ≡ b → next ≡ is_nothing (filter p (take (i + 1) xs))
first_at p xs i x true next false h e hf hn hp = hn ∙ hf ∙ ap is_nothing (sym (filter_no p xs i x h e hp))
first_at p xs i x false next false h e hf hn hp = hn ∙ hf ∙ ap is_nothing (sym (filter_no p xs i x h e hp))
first_at p xs i x true next true h e hf hn hp = hn ∙ sym (nothing_more (filter p (take i xs)) x) ∙ ap is_nothing (sym (filter_yes p xs i x h e hp))
first_at p xs i x false next true h e hf hn hp = hn ∙ sym (nothing_more (filter p (take i xs)) x) ∙ ap is_nothing (sym (filter_yes p xs i x h e hp))

pub put_first : (p : ℕ → Bool) (xs : List ℕ) (i x : ℕ) (is_first next : Bool) → i < length xs → x ≡ get_or xs i x → is_first ≡ is_nothing (filter p (take i xs)) →
    next ≡ (is_first && not (p x)) → next ≡ is_nothing (filter p (take (i + 1) xs))
put_first p xs i x is_first next h e hf hn = first_at p xs i x is_first next (p x) h e hf hn refl

-- a block more
pub world_step : (t u v : List ℕ) (xs : List Block) (i : ℕ) (b : Block) → i < length xs → b ≡ get_or xs i b → t ≡ world_text (take i xs) → u ≡ t ++ block_text b → v ≡ u ++ 10 ∷ [] →
    v ≡ world_text (take (i + 1) xs)
world_step t u v xs i b h e ht hu hv =
    let more : blocks_text (take (i + 1) xs) ≡ blocks_text (take i xs) ++ (block_text b ++ 10 ∷ []) =
    ap blocks_text (take_more xs i b h ∙ ap (λ c. take i xs ++ c ∷ []) (sym e)) ∙ flat_map_one (λ c. block_text c ++ 10 ∷ []) (take i xs) b in
    hv ∙ ap (λ s. s ++ 10 ∷ []) (hu ∙ ap (λ s. s ++ block_text b) ht)
    ∙ append_assoc (world_text (take i xs)) (block_text b) (10 ∷ [])
    ∙ append_assoc (codes "world 1") (10 ∷ blocks_text (take i xs)) (block_text b ++ 10 ∷ [])
    ∙ ap (λ s. codes "world 1" ++ (10 ∷ s)) (sym more)
