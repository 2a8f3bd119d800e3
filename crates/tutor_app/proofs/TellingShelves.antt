-- A run over a shelf and an input that are told.
use Rattle.std.proofs.Common.{◌≡◌, ℕ, ◌<◌, ◌≤◌, List, [], ◌∷◌, length, ap, ◌∙◌, sym, refl, subst, arith, Option, Some, None, inl, inr}
use Rattle.std.specs.Prelude.{IsSomeAnd}
use Rattle.edge_io.specs.Shelves.{TextsByName, text_limit}
use Rattle.tutor_app.specs.Run.{ToolRunsOn}
use Rattle.tutor_app.specs.ShelvedRun.{ShelvedRuns, ShelvedRunsOn}
use Rattle.tutor_app.specs.World.{world_words}
use Rattle.tutor_app.specs.declared.tool.Reply.{Reply}
use Rattle.tutor_app.proofs.Telling.{told_runs}

none_or_some : (found : Option (List ℕ)) (text : List ℕ) → found ≡ None → found ≡ Some text → ⊥
none_or_some found text e h = cc

same_text : (found : Option (List ℕ)) (text other : List ℕ) → found ≡ Some text → found ≡ Some other → text ≡ other
same_text found text other e h = cc

long_text : (found : Option (List ℕ)) (text : List ℕ) → IsSomeAnd found (λ text. text_limit < length text) → found ≡ Some text → length text ≤ text_limit → ⊥
long_text found text h e l = let k : text_limit < length text = subst (λ o. IsSomeAnd o (λ text. text_limit < length text)) e h in omega (arith, k, l)

some_text : (found : Option (List ℕ)) → IsSomeAnd found (λ text. text_limit < length text) → found ≡ None → ⊥
some_text found h e = subst (λ o. IsSomeAnd o (λ text. text_limit < length text)) e h

fitting : (found : Option (List ℕ)) (text other : List ℕ) → found ≡ Some text → length text ≤ text_limit → found ≡ Some other → text_limit < length other → ⊥
fitting found text other e l h k = let s : length text ≤ text_limit = l in let t : length other ≤ text_limit = subst (λ (x : List ℕ). length x ≤ text_limit) (same_text found text other e h) s in omega (arith, t, k)

over_told : (HasForm : List ℕ → Type 0) (answers : List ℕ → List ℕ → Reply → Type 0) (texts : TextsByName) (name : List ℕ) (unread : Type 0) (bytes : List ℕ) (left' taken taken' : Option (List ℕ)) (code : ℕ) →
    ShelvedRuns HasForm answers (Some texts) name unread (Some bytes) left' taken taken' code → ShelvedRunsOn HasForm answers (texts name) name unread bytes left' taken taken' code
over_told HasForm answers texts name unread bytes left' taken taken' code (inl stops) = record {
  missing = λ e. inl stops;
  over_long = λ t e l. inl stops;
  unfit = λ t e l f. inl stops;
  ran = λ t e l f. inl stops;
}
over_told HasForm answers texts name unread bytes left' taken taken' code (inr (inl long)) = record {
  missing = λ e. absurd (some_text (texts name) long.long e);
  over_long = λ t e l. inr (long.still, long.status);
  unfit = λ t e l f. absurd (long_text (texts name) t long.long e l);
  ran = λ t e l f. absurd (long_text (texts name) t long.long e l);
}
over_told HasForm answers texts name unread bytes left' taken taken' code (inr (inr (inl none))) = record {
  missing = λ e. inr (none.input, none.says);
  over_long = λ t e l. absurd (none_or_some (texts name) t none.none e);
  unfit = λ t e l f. absurd (none_or_some (texts name) t none.none e);
  ran = λ t e l f. absurd (none_or_some (texts name) t none.none e);
}
over_told HasForm answers texts name unread bytes left' taken taken' code (inr (inr (inr (inl (text, held, lacks, input, says))))) = record {
  missing = λ e. absurd (none_or_some (texts name) text e held.is);
  over_long = λ t e l. absurd (fitting (texts name) text t held.is held.fits e l);
  unfit = λ t e l f. inr (input, says);
  ran = λ t e l f. absurd (lacks (subst HasForm (same_text (texts name) t text e held.is) f));
}
over_told HasForm answers texts name unread bytes left' taken taken' code (inr (inr (inr (inr (text, held, form, runs))))) = record {
  missing = λ e. absurd (none_or_some (texts name) text e held.is);
  over_long = λ t e l. absurd (fitting (texts name) text t held.is held.fits e l);
  unfit = λ t e l f. absurd (f (subst HasForm (same_text (texts name) text t held.is e) form));
  ran = λ t e l f. inr (subst (λ x. ToolRunsOn (answers x) bytes left' taken taken' code) (same_text (texts name) text t held.is e)
      (told_runs (answers text) bytes (Some bytes) left' taken taken' code refl runs));
}

pub told_shelved : (HasForm : List ℕ → Type 0) (answers : List ℕ → List ℕ → Reply → Type 0) (shelf : Option TextsByName) (texts : TextsByName) (name : List ℕ) (unread : Type 0) (bytes : List ℕ) (left left' taken taken' : Option (List ℕ)) (code : ℕ) →
    shelf ≡ Some texts → left ≡ Some bytes → ShelvedRuns HasForm answers shelf name unread left left' taken taken' code → ShelvedRunsOn HasForm answers (texts name) name unread bytes left' taken taken' code
told_shelved HasForm answers shelf texts name unread bytes left left' taken taken' code e h runs =
    over_told HasForm answers texts name unread bytes left' taken taken' code
    (subst (λ l. ShelvedRuns HasForm answers (Some texts) name unread l left' taken taken' code) h
    (subst (λ s. ShelvedRuns HasForm answers s name unread left left' taken taken' code) e runs))

abbrev second : List (List ℕ) → List ℕ
second [] = []
second (w ∷ []) = []
second (w ∷ v ∷ ws) = v

-- Words that ask for a world ask for it by one name.
pub one_name : (words : List (List ℕ)) (m n : List ℕ) → words ≡ world_words m → words ≡ world_words n → m ≡ n
one_name words m n h k = ap second (sym h ∙ k)
