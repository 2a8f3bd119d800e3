-- What tokens spell once more of them follow: longer lists of terms and of parts, and a sentence that goes on.
use Rattle.std.proofs.Common.{◌≡◌, ℕ, suc, List, [], ◌∷◌, ◌++◌, refl, sym, subst, append_assoc}
use Rattle.fol_core.specs.declared.sent.Term.{Term}
use Rattle.fol_core.specs.declared.sent.Sent.{Sent}
use Rattle.fol_core.specs.declared.sent.Sent.TheVariants.{And, Or}
use Rattle.fol_text.specs.declared.token.Token.{Token}
use Rattle.fol_text.specs.declared.token.Token.TheVariants.{AndSign, OrSign, Comma}
use Rattle.fol_text.specs.Grammar.{SpellsTerm, variable, name, function, SpellsTerms, last_term, more_terms, Spells, one_part, conjunction, disjunction, conditional, biconditional, SpellsParts, last_part, more_parts, SpellsPart, letter, atom, equation, inequation, falsum, negation, universal, existential, group}
use Rattle.fol_text.specs.Machine.{conjoined, disjoined}

pub terms_snoc : {n : ℕ} {ks : List Token} {ts : List Term} → SpellsTerms n ks ts → (js : List Token) (t : Term) → SpellsTerm n js t → SpellsTerms n (ks ++ Comma ∷ js) (ts ++ t ∷ [])
terms_snoc (last_term n ks u i) js t h = more_terms n ks js u (t ∷ []) i (last_term n js t h)
terms_snoc (more_terms n ks ls u ts i q) js t h =
    subst (λ (xs : List Token). SpellsTerms n xs (u ∷ ts ++ t ∷ [])) (sym (append_assoc ks (Comma ∷ ls) (Comma ∷ js)))
    (more_terms n ks (ls ++ Comma ∷ js) u (ts ++ t ∷ []) i (terms_snoc q js t h))

pub parts_snoc : {sign : Token} {n : ℕ} {ks : List Token} {ss : List Sent} → SpellsParts sign n ks ss → (js : List Token) (s : Sent) → SpellsPart n js s → SpellsParts sign n (ks ++ sign ∷ js) (ss ++ s ∷ [])
parts_snoc (last_part sign n ks t q) js s h = more_parts sign n ks js t (s ∷ []) q (last_part sign n js s h)
parts_snoc (more_parts sign n ks ls t ss q r) js s h =
    subst (λ (xs : List Token). SpellsParts sign n xs (t ∷ ss ++ s ∷ [])) (sym (append_assoc ks (sign ∷ ls) (sign ∷ js)))
    (more_parts sign n ks (ls ++ sign ∷ js) t (ss ++ s ∷ []) q (parts_snoc r js s h))

-- A chain with one part more, by the production of its sign.
chain_spelled : {k : Token} {n : ℕ} {ks : List Token} {ss : List Sent} → SpellsParts k n ks ss → (J : List Sent → Sent)
    → ((ls js : List Token) (t : Sent) (ts : List Sent) → SpellsPart n ls t → SpellsParts k n js ts → Spells n (ls ++ k ∷ js) (J (t ∷ ts)))
    → (js : List Token) (s : Sent) → SpellsPart n js s → Spells n (ks ++ k ∷ js) (J (ss ++ s ∷ []))
chain_spelled (last_part k n ks t q) J make js s h = make ks js t (s ∷ []) q (last_part k n js s h)
chain_spelled (more_parts k n ks ls t ss q r) J make js s h =
    subst (λ (xs : List Token). Spells n xs (J (t ∷ ss ++ s ∷ []))) (sym (append_assoc ks (k ∷ ls) (k ∷ js)))
    (make ks (ls ++ k ∷ js) t (ss ++ s ∷ []) q (parts_snoc r js s h))

conjoined_parts : {k : Token} {n : ℕ} {ks : List Token} {ss : List Sent} → SpellsParts k n ks ss → (s : Sent) → And (ss ++ s ∷ []) ≡ conjoined ss s
unfolding conjoined
conjoined_parts (last_part k n ks t q) s = refl
conjoined_parts (more_parts k n ks ls t ss q r) s = refl

disjoined_parts : {k : Token} {n : ℕ} {ks : List Token} {ss : List Sent} → SpellsParts k n ks ss → (s : Sent) → Or (ss ++ s ∷ []) ≡ disjoined ss s
unfolding disjoined
disjoined_parts (last_part k n ks t q) s = refl
disjoined_parts (more_parts k n ks ls t ss q r) s = refl

pub conjoined_spelled : (n : ℕ) (ks : List Token) (ss : List Sent) → SpellsParts AndSign n ks ss → (js : List Token) (s : Sent) → SpellsPart n js s → Spells n (ks ++ AndSign ∷ js) (conjoined ss s)
conjoined_spelled n ks ss r js s h =
    subst (λ (u : Sent). Spells n (ks ++ AndSign ∷ js) u) (conjoined_parts r s) (chain_spelled r And (λ ls js' t ts q p. conjunction n ls js' t ts q p) js s h)

pub disjoined_spelled : (n : ℕ) (ks : List Token) (ss : List Sent) → SpellsParts OrSign n ks ss → (js : List Token) (s : Sent) → SpellsPart n js s → Spells n (ks ++ OrSign ∷ js) (disjoined ss s)
disjoined_spelled n ks ss r js s h =
    subst (λ (u : Sent). Spells n (ks ++ OrSign ∷ js) u) (disjoined_parts r s) (chain_spelled r Or (λ ls js' t ts q p. disjunction n ls js' t ts q p) js s h)

-- What is spelled in some room is spelled in more of it.
mutual
  term_wider : {n : ℕ} {ks : List Token} {t : Term} → SpellsTerm n ks t → SpellsTerm (suc n) ks t
  term_wider (variable n x i) = variable (suc n) x i
  term_wider (name n k i) = name (suc n) k i
  term_wider (function n g ks ts i q) = function (suc n) g ks ts i (terms_wider q)

  terms_wider : {n : ℕ} {ks : List Token} {ts : List Term} → SpellsTerms n ks ts → SpellsTerms (suc n) ks ts
  terms_wider (last_term n ks t i) = last_term (suc n) ks t (term_wider i)
  terms_wider (more_terms n ks js t ts i q) = more_terms (suc n) ks js t ts (term_wider i) (terms_wider q)

mutual
  pub part_wider : {n : ℕ} {ks : List Token} {s : Sent} → SpellsPart n ks s → SpellsPart (suc n) ks s
  part_wider (letter n p i) = letter (suc n) p i
  part_wider (atom n p ks ts i q) = atom (suc n) p ks ts i (terms_wider q)
  part_wider (equation n ks js a b x y) = equation (suc n) ks js a b (term_wider x) (term_wider y)
  part_wider (inequation n ks js a b x y) = inequation (suc n) ks js a b (term_wider x) (term_wider y)
  part_wider (falsum n) = falsum (suc n)
  part_wider (negation n ks s q) = negation (suc n) ks s (part_wider q)
  part_wider (universal n x ks s v q) = universal (suc n) x ks s v (part_wider q)
  part_wider (existential n x ks s v q) = existential (suc n) x ks s v (part_wider q)
  part_wider (group n ks s q) = group (suc n) ks s (wider q)

  parts_wider : {k : Token} {n : ℕ} {ks : List Token} {ss : List Sent} → SpellsParts k n ks ss → SpellsParts k (suc n) ks ss
  parts_wider (last_part k n ks s q) = last_part k (suc n) ks s (part_wider q)
  parts_wider (more_parts k n ks js s ss q r) = more_parts k (suc n) ks js s ss (part_wider q) (parts_wider r)

  pub wider : {n : ℕ} {ks : List Token} {s : Sent} → Spells n ks s → Spells (suc n) ks s
  wider (one_part n ks s q) = one_part (suc n) ks s (part_wider q)
  wider (conjunction n ks js s ss q r) = conjunction (suc n) ks js s ss (part_wider q) (parts_wider r)
  wider (disjunction n ks js s ss q r) = disjunction (suc n) ks js s ss (part_wider q) (parts_wider r)
  wider (conditional n ks js s t q r) = conditional (suc n) ks js s t (part_wider q) (part_wider r)
  wider (biconditional n ks js s t q r) = biconditional (suc n) ks js s t (part_wider q) (part_wider r)
