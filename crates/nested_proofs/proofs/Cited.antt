-- What holds of all that is in scope holds of all that the cites find.
use Rattle.std.proofs.Common.{ℕ, List, [], ◌∷◌, Option, Some, None, Bool, true, false}
use Rattle.std.specs.Prelude.{IfSome, cond, ◌==◌, ◌&&◌}
use Rattle.std.specs.List.{AllByRecursion}
use Rattle.fol_core.specs.declared.sent.Sent.{Sent}
use Rattle.deriv_laws.specs.declared.line.Cite.{Cite}
use Rattle.nested_proofs.specs.Scope.{Numbered, Subproof, Scope, prepend, sentence_at, subproof_at, cited_sentences, cited_subproofs}

chosen : {X : Type 0} (P : X → Type 0) (b : Bool) (x : X) (o : Option X) → P x → IfSome o P → IfSome (cond b (Some x) o) P
chosen P true x o h k = h
chosen P false x o h k = k

sentence_found : (P : Sent → Type 0) (n : ℕ) (xs : List Numbered) → AllByRecursion (λ (x : Numbered). P x.sentence) xs → IfSome (sentence_at n xs) P
sentence_found P n [] h = tt
sentence_found P n (x ∷ xs) h = chosen P (x.number == n) x.sentence (sentence_at n xs) h.0 (sentence_found P n xs h.1)

subproof_found : (P : Subproof → Type 0) (n m : ℕ) (xs : List Subproof) → AllByRecursion P xs → IfSome (subproof_at n m xs) P
subproof_found P n m [] h = tt
subproof_found P n m (x ∷ xs) h = chosen P ((x.first == n) && (x.last == m)) x (subproof_at n m xs) h.0 (subproof_found P n m xs h.1)

joins : {X : Type 0} (P : X → Type 0) (o : Option X) (xs : List X) → IfSome o P → AllByRecursion P xs → AllByRecursion P (prepend o xs)
joins P None xs h k = k
joins P (Some x) xs h k = (h, k)

either : {X : Type 0} (P : X → Type 0) (b : Bool) (xs ys : List X) → AllByRecursion P xs → AllByRecursion P ys → AllByRecursion P (cond b xs ys)
either P true xs ys h k = h
either P false xs ys h k = k

pub sentences_cited : (P : Sent → Type 0) (sc : Scope) (cs : List Cite) → AllByRecursion (λ (x : Numbered). P x.sentence) sc.sentences → AllByRecursion P (cited_sentences sc cs)
sentences_cited P sc [] h = tt
sentences_cited P sc (c ∷ cs) h =
    let rest : AllByRecursion P (cited_sentences sc cs) = sentences_cited P sc cs h in
    either P c.sub (cited_sentences sc cs) (prepend (sentence_at c.first sc.sentences) (cited_sentences sc cs)) rest (joins P (sentence_at c.first sc.sentences) (cited_sentences sc cs) (sentence_found P c.first sc.sentences h) rest)

pub subproofs_cited : (P : Subproof → Type 0) (sc : Scope) (cs : List Cite) → AllByRecursion P sc.subproofs → AllByRecursion P (cited_subproofs sc cs)
subproofs_cited P sc [] h = tt
subproofs_cited P sc (c ∷ cs) h =
    let rest : AllByRecursion P (cited_subproofs sc cs) = subproofs_cited P sc cs h in
    either P c.sub (prepend (subproof_at c.first c.last sc.subproofs) (cited_subproofs sc cs)) (cited_subproofs sc cs) (joins P (subproof_at c.first c.last sc.subproofs) (cited_subproofs sc cs) (subproof_found P c.first c.last sc.subproofs h) rest) rest
