-- What putting names in says of each form of sentence.
use Rattle.std.proofs.Common.{◌≡◌, List, [], ◌∷◌, map, refl, ap, ◌∙◌, rules}
use Rattle.fol_core.specs.declared.sent.Sent.{Sent, the_lemmas}
use Rattle.fol_core.specs.declared.sent.Sent.TheVariants as s
use Rattle.rules_quant.specs.Naming.{Entry, put, put_term, hiding}
use Rattle.fol_core.specs.Word.{Word}
use Rattle.fol_core.specs.declared.sent.Term.{Term}

-- Functions made of the items of one list, each at the same entries.
each_put : (es : List Entry) (ps : List Sent) → map (λ (h : List Entry → Sent). h es) (map put ps) ≡ map (λ q. put q es) ps
each_put es [] = refl
each_put es (p ∷ ps) = ap (λ qs. put p es ∷ qs) (each_put es ps)

pub put_and : (ps : List Sent) (es : List Entry) → put (s.And ps) es ≡ s.And (map (λ q. put q es) ps)
put_and ps es = let e : put (s.And ps) es ≡ s.And (map (λ (h : List Entry → Sent). h es) (map put ps)) = search (rules, the_lemmas) in e ∙ ap s.And (each_put es ps)

pub put_or : (ps : List Sent) (es : List Entry) → put (s.Or ps) es ≡ s.Or (map (λ q. put q es) ps)
put_or ps es = let e : put (s.Or ps) es ≡ s.Or (map (λ (h : List Entry → Sent). h es) (map put ps)) = search (rules, the_lemmas) in e ∙ ap s.Or (each_put es ps)

pub put_atom : (p : Word) (ts : List Term) (es : List Entry) → put (s.Atom p ts) es ≡ s.Atom p (map (put_term es) ts)
put_atom p ts es = search (rules, the_lemmas)

pub put_all : (x : Word) (p : Sent) (es : List Entry) → put (s.All x p) es ≡ s.All x (put p (hiding x es))
put_all x p es = search (rules, the_lemmas)

pub put_ex : (x : Word) (p : Sent) (es : List Entry) → put (s.Ex x p) es ≡ s.Ex x (put p (hiding x es))
put_ex x p es = search (rules, the_lemmas)
