-- UTF-8 as a relation, and as a test.
use Rattle.std.proofs.Common.{◌≡◌, ℕ, List, Bool, true, false, refl, sym}
use Rattle.std.specs.Str.{IsUtf8, is_utf8}
use Rattle.std.proofs.lemmas.Str.{IsUtf8-from_is_utf8, is_utf8-from_IsUtf8}

pub says_yes : (bytes : List ℕ) → IsUtf8 bytes → true ≡ is_utf8 bytes
says_yes bytes is = sym (is_utf8-from_IsUtf8 bytes is)

no_by : (b : Bool) → (b ≡ true → ⊥) → b ≡ false
no_by true never = absurd (never refl)
no_by false never = refl

pub says_no : (bytes : List ℕ) → (IsUtf8 bytes → ⊥) → false ≡ is_utf8 bytes
says_no bytes never = sym (no_by (is_utf8 bytes) (λ t. never (IsUtf8-from_is_utf8 bytes t)))
