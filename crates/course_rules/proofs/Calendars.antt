-- The calendar's dates and a clock's times, as tests and as jiff says them.
use Rattle.std.proofs.Common.{◌≡◌, ℕ, ◌≤◌, ◌<◌, Bool, true, false, ℤ, pos, arith, refl, ap, ◌∙◌, ◌^◌, to_z, of_z, w8, w16, rules, Some, None, cond}
use Rattle.std.proofs.lemmas.Bool.Decides.{nat_tests}
use Rattle.jiff_core.specs.Calendar.{IsDate, days_in_month}
use Rattle.jiff_core.specs.Time.{IsTime}
use Rattle.jiff_core.proofs.SignedLemmas.{signed_arith, back_small}
use Rattle.std.specs.Int.{Width}
use mir.Val.{hbits}
use Rattle.course_rules.specs.CivilText.{IsSmall, is_real, real, Shows}
use Rattle.course_rules.specs.declared.civil.CivilTime.{CivilTime}

refuted : (c : CivilTime) (b : Bool) → (b ≡ true → ⊥) → Shows (cond b (Some c) None) None
refuted c true h = absurd (h refl)
refuted c false h = tt

-- the tests as inequalities
record Within (c : CivilTime) : Type 0 where
  pub month_low : 1 ≤ c.month
  pub month : c.month ≤ 12
  pub day_low : 1 ≤ c.day
  pub day : c.day ≤ days_in_month (pos c.year) c.month
  pub hour : c.hour ≤ 23
  pub minute : c.minute ≤ 59

within : (c : CivilTime) → is_real c ≡ true → Within c
within c h = record { month_low = grind (arith, nat_tests); month = grind (arith, nat_tests); day_low = grind (arith, nat_tests); day = grind (arith, nat_tests); hour = grind (arith, nat_tests); minute = grind (arith, nat_tests) }

is_date : (c : CivilTime) → IsSmall c → Within c → IsDate (pos c.year) (pos c.month) (pos c.day)
is_date c s w = search (rules, signed_arith)

is_time : (c : CivilTime) → Within c → IsTime (pos c.hour) (pos c.minute) (pos 0) (pos 0)
is_time c w = search (rules, signed_arith)

has : (c : CivilTime) → IsSmall c → is_real c ≡ true → IsDate (pos c.year) (pos c.month) (pos c.day) × IsTime (pos c.hour) (pos c.minute) (pos 0) (pos 0)
has c s h = (is_date c s (within c h), is_time c (within c h))

-- a small number that goes through jiff's type comes back
back : (w : Width) (z : ℤ) (n : ℕ) → z ≡ pos n → n < 2 ^ hbits w → to_z w (of_z w z) ≡ pos n
back w z n e h = ap (λ x. to_z w (of_z w x)) e ∙ back_small w (pos n) h

-- where jiff has no such date and time, there is none
pub no_such : (c : CivilTime) → IsSmall c → (y m d h n : ℤ) → y ≡ pos c.year → m ≡ pos c.month → d ≡ pos c.day → h ≡ pos c.hour → n ≡ pos c.minute
    → ((IsDate (to_z w16 (of_z w16 y)) (to_z w8 (of_z w8 m)) (to_z w8 (of_z w8 d)) × IsTime (to_z w8 (of_z w8 h)) (to_z w8 (of_z w8 n)) (pos 0) (pos 0)) → false ≡ true) → Shows (real c) None
no_such c s y m d h n ey em ed eh en none = refuted c (is_real c) (λ e.
    let p = has c s e in
    let date : IsDate (to_z w16 (of_z w16 y)) (to_z w8 (of_z w8 m)) (to_z w8 (of_z w8 d)) = rw (back w16 y c.year ey (omega (arith, s.year)), back w8 m c.month em (omega (arith, s.month)), back w8 d c.day ed (omega (arith, s.day))) p.0 in
    let time : IsTime (to_z w8 (of_z w8 h)) (to_z w8 (of_z w8 n)) (pos 0) (pos 0) = rw (back w8 h c.hour eh (omega (arith, s.hour)), back w8 n c.minute en (omega (arith, s.minute))) p.1 in
    let f : false ≡ true = none (date, time) in
    absurd (cc))
