-- What is printed is read back.
use Rattle.std.proofs.Common.{◌≡◌, ℕ, ◌≤◌, true, Bool, List, length, refl, sym, subst, Result, Ok, Err, if◌then◌else◌, arith}
use Rattle.std.specs.Prelude.{nat_lt, false}
use Rattle.std.proofs.lemmas.Bool.Decides.{nat_tests}
use Rattle.fol_core.specs.Closed.{closed}
use Rattle.fol_core.specs.Formed.{formed}
use Rattle.fol_core.specs.Size.{depth, nodes, within_limits}
use Rattle.fol_core.specs.declared.sent.Sent.{Sent}
use Rattle.fol_core.specs.declared.sent.SentFault.{SentFault}
use Rattle.fol_core.specs.declared.sent.SentFault.TheVariants.{TooDeep, TooMany}
use Rattle.fol_core.proofs.Forming.{formed_places}
use Rattle.fol_text.specs.declared.token.Token.{Token}
use Rattle.fol_text.specs.Grammar.{Spells}
use Rattle.fol_text.specs.Printed.{printed}
use Rattle.fol_text.specs.Readable.{most_bytes, most_pending, SpellsText, IsReadable}
use Rattle.fol_text.proofs.Written.{text_reads}
use Rattle.fol_text.proofs.Respelled.{respelled}

-- a sentence within the limits has at most this depth
deep_by : (m n : ℕ) (t : Bool) (r : Result (Unit {0}) SentFault) → nat_lt 60 m ≡ t → r ≡ (if t then Err TooDeep else (if nat_lt 400 n then Err TooMany else Ok tt)) → r ≡ Ok tt → m ≤ 60
deep_by m n true r i e g = cc
deep_by m n false r i e g = grind (arith, nat_tests)

within_deep : (s : Sent) → within_limits s ≡ Ok tt → depth s ≤ 60
within_deep s e = deep_by (depth s) (nodes s) (nat_lt 60 (depth s)) (within_limits s) refl refl e

enough : (n : ℕ) → n ≤ 60 → n ≤ most_pending
enough n h = omega (arith, h)

pub printed_spells : (s : Sent) (text : List ℕ) → text ≡ printed s → formed s ≡ true → SpellsText text s
printed_spells s text e i =
    let h = respelled s i in
    let p = text_reads (printed s) h.alone_tokens h.alone_written in
    subst (λ (bs : List ℕ). SpellsText bs s) (sym e) (record {
      tokens = p.tokens;
      are_tokens = p.are;
      room = depth s;
      spells = subst (λ (ks : List Token). Spells (depth s) ks s) (sym p.same) (h.alone (depth s) (omega arith));
    })

pub printed_readable : (s : Sent) (text : List ℕ) → text ≡ printed s → formed s ≡ true → closed s ≡ true → within_limits s ≡ Ok tt → length text ≤ most_bytes → IsReadable text s
printed_readable s text e i free within short =
    let h = respelled s i in
    let p = text_reads (printed s) h.alone_tokens h.alone_written in
    subst (λ (bs : List ℕ). length bs ≤ most_bytes → IsReadable bs s) (sym e) (λ (l : length (printed s) ≤ most_bytes). record {
      short = l;
      tokens = p.tokens;
      are_tokens = p.are;
      spells = subst (λ (ks : List Token). Spells most_pending ks s) (sym p.same) (h.alone most_pending (enough (depth s) (within_deep s within)));
      fit = record { within = within; places = formed_places s i; closed = free };
    }) short
