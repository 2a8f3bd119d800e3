-- Which rows are missing, where the rows of the text are right.
use Rattle.std.proofs.Common.{◌≡◌, ℕ, ◌<◌, ◌≤◌, Bool, false, List, [], ◌∷◌, ◌++◌, length, map, take, drop, replicate, sym, ap, ◌∙◌, arith}
use Rattle.std.proofs.lemmas.List.{length-replicate}
use Rattle.std.proofs.Math.Seq.{take-append_seam}
use Rattle.fol_core.specs.declared.sent.Sent.{Sent}
use Rattle.boole_table.specs.declared.table.TableRow.{TableRow}
use Rattle.boole_table.specs.declared.table.TableVerdict.TheVariants.{MissingRow}
use Rattle.boole_table.specs.StandardTable.{standard_rows}
use Rattle.boole_table.specs.Verdict.{missing_rows}
use Rattle.boole_table.specs.Judges.{IsFirst, seen_flags, unset}
use Rattle.boole_table.proofs.Scanning.{seen_long, rows_long}
use Rattle.boole_table.proofs.Seeing.{unset_missing}
use Rattle.boole_table.proofs.WrongRows.{few_flags}

-- What the rows of the text have set are all flags: their number is that of the rows of the standard order.
pub flags_kept : (cs ls ss : List Sent) (rs standard : List TableRow) (now items new : List Bool) (n : ℕ) → now ≡ take n (new ++ drop (length new) items) → n ≡ length items → items ≡ replicate (length standard) false → standard ≡ standard_rows ls ss →
    new ≡ seen_flags cs ls rs → now ≡ seen_flags cs ls rs
flags_kept cs ls ss rs standard now items new n v k i s f =
    let long : n ≡ length new = omega (arith, k, ap length i, length-replicate (length standard) false, ap length s, rows_long ls ss, ap length f, seen_long cs ls rs) in
    v ∙ ap (λ m. take m (new ++ drop (length new) items)) long ∙ take-append_seam new (drop (length new) items) ∙ f

pub few_missing : (cs ls : List Sent) (rs : List TableRow) (now : List Bool) → now ≡ seen_flags cs ls rs → length ls ≤ 12 → length now < 4294967296
few_missing cs ls rs now e h = omega (arith, ap length e, seen_long cs ls rs, few_flags ls h)

unset_map : (cs ls : List Sent) (rs : List TableRow) (now : List Bool) → now ≡ seen_flags cs ls rs → missing_rows cs ls rs ≡ map MissingRow (unset 1 now)
unset_map cs ls rs now e = ap (map MissingRow) (sym (ap (unset 1) e ∙ unset_missing cs ls rs))

pub missing_first : (cs ls : List Sent) (rs : List TableRow) (now : List Bool) (row : ℕ) → now ≡ seen_flags cs ls rs → (more : List ℕ) × (unset 1 now ≡ row ∷ more) → IsFirst (MissingRow row) (missing_rows cs ls rs)
missing_first cs ls rs now row e h = (map MissingRow h.0, unset_map cs ls rs now e ∙ ap (map MissingRow) h.1)

pub none_missing : (cs ls : List Sent) (rs : List TableRow) (now : List Bool) → now ≡ seen_flags cs ls rs → unset 1 now ≡ [] → missing_rows cs ls rs ≡ []
none_missing cs ls rs now e h = unset_map cs ls rs now e ∙ ap (map MissingRow) h
