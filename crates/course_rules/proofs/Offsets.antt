-- The offset that jiff picks is that of the zone's text.
use Rattle.std.proofs.Common.{◌≡◌, ℕ, zero, suc, ℤ, pos, negsuc, ◌≤◌, ◌/◌, Bool, true, false, not, cond, int_lt, Option, Some, None, option_map, Err, refl, arith}
use Rattle.std.specs.Prelude.{int_div, neg_ℤ}
use Rattle.std.proofs.lemmas.Bool.Decides.{nat_tests}
use Rattle.jiff.specs.Types.{DateTime, Posix, Offset, AmbiguousOffset, Unambiguous, Gap, Fold}
use Rattle.jiff.specs.Words.{civil_nanos, compatible_offset, ambiguous_at, IsTimestampNanos, tz_view}
use Rattle.jiff_core.proofs.SignedLemmas.{signed_arith}
use Rattle.jiff_tz.specs.PosixText.{dst_view}
use Rattle.jiff_tz.specs.PosixRule.{ambiguous_by, ambiguous_behind, ambiguous_ahead, ambiguous_at_by, in_window, in_span, saturating_add, saturating_sub, rule_nanos}
use Rattle.jiff_tz.specs.declared.posix.Dst.{Dst}
use Rattle.jiff_tz.specs.declared.posix.TimeZone as rule
use Rattle.course_rules.specs.declared.due.DueFault.TheVariants.{DateRefused}
use Rattle.course_rules.specs.Due.{offset_behind, offset_ahead, offset_in, offset_by, offset_of, shift, within_course}

pick : (b : Bool) (x y : AmbiguousOffset) (m n : ℤ) → (compatible_offset x).seconds ≡ m → (compatible_offset y).seconds ≡ n → (compatible_offset (cond b x y)).seconds ≡ cond b m n
pick true x y m n p q = p
pick false x y m n p q = q

behind : (a b c : Bool) (std dst : Offset) → (compatible_offset (cond a (Unambiguous dst) (cond b (Fold std dst) (cond c (Gap dst std) (Unambiguous std))))).seconds ≡ cond a dst.seconds (cond b std.seconds (cond c dst.seconds std.seconds))
behind true b c std dst = refl
behind false true c std dst = refl
behind false false true std dst = refl
behind false false false std dst = refl

ahead : (a b c : Bool) (std dst : Offset) → (compatible_offset (cond (not a) (Unambiguous std) (cond b (Gap std dst) (cond c (Fold dst std) (Unambiguous dst))))).seconds ≡ cond (not a) std.seconds (cond b std.seconds dst.seconds)
ahead false b c std dst = refl
ahead true true c std dst = refl
ahead true false true std dst = refl
ahead true false false std dst = refl

picked : (std dst : Offset) (w : ℤ × ℤ) (now : ℤ) → (compatible_offset (ambiguous_by std dst w now)).seconds ≡ offset_in std.seconds dst.seconds w now
picked std dst w now =
    let s = std.seconds in let d = dst.seconds in
    pick (int_lt d s) (ambiguous_behind std dst w now) (cond (int_lt s d) (ambiguous_ahead std dst w now) (Unambiguous std))
    (offset_behind s d w now) (cond (int_lt s d) (offset_ahead s d w now) s)
    (behind (in_window w now) (in_span (saturating_add w.0 (shift s d)) w.0 now) (in_span w.1 (saturating_sub w.1 (shift s d)) now) std dst)
    (pick (int_lt s d) (ambiguous_ahead std dst w now) (Unambiguous std) (offset_ahead s d w now) s
    (ahead (in_window w now) (in_span w.0 (saturating_add w.0 (shift s d)) now) (in_span (saturating_sub w.1 (shift s d)) w.1 now) std dst)
    refl)

by_dst : (std : Offset) (d : Option Dst) (dt : DateTime) → (compatible_offset (ambiguous_at_by std d dt)).seconds ≡ offset_by std.seconds (option_map dst_view d) dt.date.year (civil_nanos dt)
unfolding rule_nanos
by_dst std None dt = refl
by_dst std (Some d) dt = picked std d.offset (rule_nanos dt.date.year d.rule.start (pos 0), rule_nanos dt.date.year d.rule.end (pos 0)) (civil_nanos dt)

pub offset_matches : (r : rule.TimeZone) (dt : DateTime) → (compatible_offset (ambiguous_at (Posix r) dt)).seconds ≡ offset_of (tz_view r) dt.date.year (civil_nanos dt)
unfolding ambiguous_at
offset_matches r dt = by_dst r.std_offset r.dst dt

late : (k : ℕ) → 253_370_764_801 ≤ k → within_course (pos k) ≡ Err DateRefused
late k h = grind (arith, nat_tests)

early : (k : ℕ) → 1 ≤ k → within_course (neg_ℤ (pos k)) ≡ Err DateRefused
early zero h = absurd (omega arith)
early (suc k) h = refl

-- an instant that jiff cannot hold lies outside a course's range
pub out_of_course : (n : ℤ) → ¬ (IsTimestampNanos n) → within_course (int_div n (pos 1_000_000_000)) ≡ Err DateRefused
out_of_course (pos k) h =
    let big : 253_402_207_201_000_000_000 ≤ k = grind (arith, signed_arith) in
    late (k / 1_000_000_000) (omega arith)
out_of_course (negsuc k) h =
    let big : 377_705_023_200_999_999_999 ≤ k = grind (arith, signed_arith) in
    early (suc k / 1_000_000_000) (omega arith)
