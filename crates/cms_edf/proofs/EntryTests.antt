-- What the tests of entries say of their trees and of their bytes.
use Rattle.std.proofs.Common.{◌≡◌, inl, inr, ℕ, zero, suc, ◌+◌, ◌-◌, ◌*◌, ◌/◌, ◌<◌, ◌≤◌, true, not, List, [], ◌∷◌, Ok, if◌then◌else◌, sym, ◌∙◌, ap, subst, arith}
use Rattle.std.specs.Prelude.{nat_le, ◌==◌, ◌&&◌, ◌||◌}
use Rattle.std.specs.List.{All}
use Rattle.std.proofs.lemmas.Bool.{and_from, and_parts, le-leb, leb-true, eqb-true}
use Rattle.std.proofs.lemmas.List.Elements.{All-nil, All-cons}
use Rattle.cms_journal.specs.Journal.{IsBlockSize}
use Rattle.cms_journal.proofs.Sizes.{block_bounds}
use Rattle.cms_names.specs.Names.{is_between}
use Rattle.cms_names.specs.declared.name.Format.{Format}
use Rattle.cms_names.specs.declared.name.Format.TheVariants.{F, V}
use Rattle.cms_text.specs.Bytes.{byte}
use Rattle.cms_fields.specs.Numbers.{up}
use Rattle.cms_fields.specs.Stamps.{has_stamp, are_packed, is_stamp, stamp_at}
use Rattle.cms_fields.proofs.ReadEntry.{entry_is}
use Rattle.cms_fields.specs.Entries.{entry_of, entry_fields, passes, has_mode, fan_of, is_fixed, length_fits, counts_fit, levels_fit}
use Rattle.cms_fields.specs.declared.entry.Entry.{Entry}
use Rattle.cms_model.specs.Volumes.{as_read, blamed, entries_of}
use Rattle.cms_model.specs.declared.fault.OpenFault.TheVariants as failed
use Rattle.cms_model.proofs.Results.{ok_same, bind_then}
use Rattle.cms_model.proofs.OpenedVolumes.{blamed_ok}
use Rattle.cms_model.proofs.Quotients.{up_spec}
use Rattle.cms_model.proofs.Shapes.{shape_least}
use Rattle.cms_model.proofs.TreeFrame.{between}
use Rattle.cms_model.proofs.EntriesRead.{passes_so}
use Rattle.cms_model.proofs.FileSizes.{EntryFits, AllFit, entries_fit, entry_counted, fan_wide}
use Rattle.cms_edf.specs.EntryShapes.{EndsIn, HasShape, HasSize}

shaped : (bsize : ℕ) (e : Entry) → IsBlockSize bsize → EntryFits bsize e → HasShape bsize e
unfolding levels_fit
shaped bsize e size fits =
    let low = (block_bounds bsize size).0 in
    let c = entry_counted bsize e (omega arith) fits in
    (c.some, (shape_least (fan_of bsize e.format) e.blocks e.levels (fan_wide bsize e.format size) c.small).0 fits.levels)

-- as many whole blocks as hold so many bytes have no more than 67,108,864, which is a multiple of each size
filled : (bsize n : ℕ) → IsBlockSize bsize → n ≤ 67108864 → up n bsize * bsize ≤ 67108864
filled bsize n (inl e) le = rw e (omega arith)
filled bsize n (inr (inl e)) le = rw e (omega arith)
filled bsize n (inr (inr (inl e))) le = rw e (omega arith)
filled bsize n (inr (inr (inr e))) le = rw e (omega arith)

-- what the tests say of the counts of an entry of a format
record Few (format : Format) (bsize count len blocks : ℕ) : Type 0 where
  some : 1 ≤ count
  room : blocks * bsize ≤ 67108864
  few : format ≡ F → count * len ≤ 67108864
  fits : format ≡ F → (1 ≤ len) × (len ≤ 65535)

are_few : (format : Format) (bsize count len blocks : ℕ) → IsBlockSize bsize → (not (is_fixed format) || is_between 1 65535 len) ≡ true
    → (is_between 1 1048576 count && (if is_fixed format then nat_le (count * len) 67108864 && (blocks == up (count * len) bsize) else is_between 1 (67108864 / bsize) blocks)) ≡ true
    → Few format bsize count len blocks
are_few F bsize count len blocks size long fits =
    let a = and_parts (is_between 1 1048576 count) (nat_le (count * len) 67108864 && (blocks == up (count * len) bsize)) fits in
    let b = and_parts (nat_le (count * len) 67108864) (blocks == up (count * len) bsize) a.1 in
    let fit = leb-true (count * len) 67108864 b.0 in
    let is : blocks ≡ up (count * len) bsize = eqb-true blocks (up (count * len) bsize) b.1 in
    record {
      some = (between 1 1048576 count a.0).0;
      room = rw is (filled bsize (count * len) size fit);
      few = λ f. fit;
      fits = λ f. between 1 65535 len long;
    }
are_few V bsize count len blocks size long fits =
    let a = and_parts (is_between 1 1048576 count) (is_between 1 (67108864 / bsize) blocks) fits in
    let high = (between 1 (67108864 / bsize) blocks a.1).1 in
    record {
      some = (between 1 1048576 count a.0).0;
      room = product blocks (67108864 / bsize) bsize 67108864 high (below 67108864 bsize);
      few = λ f. absurd (cc f);
      fits = λ f. absurd (cc f);
    }
  where
    product : (a q b n : ℕ) → a ≤ q → q * b ≤ n → a * b ≤ n
    product a q b n le fits = grind arith

    below : (n b : ℕ) → n / b * b ≤ n
    below n b = grind arith

-- bytes that leave less than a block of so many end in the last of them
pub ends_last : (n bsize stored : ℕ) → 1 ≤ n → stored ≤ n * bsize → n * bsize < stored + bsize → EndsIn bsize n stored
ends_last zero bsize stored some high low = absurd (omega arith)
ends_last (suc n) bsize stored some high low = let one : suc n - 1 ≡ n = omega arith in (rw one (omega arith), high)

small : (bsize : ℕ) (e : Entry) → IsBlockSize bsize → EntryFits bsize e → HasSize bsize e
unfolding length_fits counts_fit
small bsize e size fits =
    let low = (block_bounds bsize size).0 in
    let f = are_few e.format bsize e.count e.length e.blocks size fits.long fits.counts in
    let c = entry_counted bsize e (omega arith) fits in
    let spec = up_spec (e.count * e.length) bsize (omega arith) in
    record {
      some = f.some;
      blocks = c.some;
      room = f.room;
      few = f.few;
      ends = λ fixed.
          let is : e.blocks ≡ up (e.count * e.length) bsize = c.fixed (ap is_fixed fixed) in
          subst (λ (k : ℕ). EndsIn bsize k (e.count * e.length)) (sym is)
          (ends_last (up (e.count * e.length) bsize) bsize (e.count * e.length) (subst (λ (k : ℕ). 1 ≤ k) is c.some) spec.0 spec.1);
      fits = f.fits;
    }

each : (P : Entry → Type 0) (bsize : ℕ) (es : List Entry) → ((e : Entry) → EntryFits bsize e → P e) → AllFit bsize es → All P es
each P bsize [] go fits k d less = absurd (omega arith)
each P bsize (e ∷ es) go fits zero d less = go e fits.0
each P bsize (e ∷ es) go fits (suc k) d less = each P bsize es go fits.1 k d (omega arith)

pub entries_shaped : (bsize : ℕ) (pieces : List (List ℕ)) (es : List Entry) → IsBlockSize bsize → entries_of bsize 2 pieces ≡ Ok es → All (HasShape bsize) es
entries_shaped bsize pieces es size is = each (HasShape bsize) bsize es (λ e fits. shaped bsize e size fits) (entries_fit bsize 2 pieces es is).0

pub entries_small : (bsize : ℕ) (pieces : List (List ℕ)) (es : List Entry) → IsBlockSize bsize → entries_of bsize 2 pieces ≡ Ok es → All (HasSize bsize) es
entries_small bsize pieces es size is = each (HasSize bsize) bsize es (λ e fits. small bsize e size fits) (entries_fit bsize 2 pieces es is).0

-- ---- the fields of the entries pass

-- the fields of an entry that is spelled pass
fields_pass : (bsize : ℕ) (bytes : List ℕ) → has_mode bytes ≡ true → length_fits (entry_fields bytes) ≡ true → counts_fit bsize (entry_fields bytes) ≡ true
    → levels_fit bsize (entry_fields bytes) ≡ true → has_stamp bytes 54 (byte bytes 31) ≡ true
    → passes bsize (entry_fields bytes) ≡ true
unfolding passes has_mode has_stamp entry_fields
fields_pass bsize bytes mode size counts levels stamp =
    let range = between 0xF0 0xF6 (byte bytes 25) mode in
    let high = range.1 in
    let number : nat_le (byte bytes 25 - 0xF0) 6 ≡ true = le-leb (byte bytes 25 - 0xF0) 6 (omega arith) in
    let date = (and_parts (are_packed bytes 54) (is_stamp (stamp_at bytes 54 (byte bytes 31))) stamp).1 in
    and_from _ _ (and_from _ _ (and_from _ _ (and_from _ _ number size) counts) levels) date

entry_passes : (bsize : ℕ) (bytes : List ℕ) (e : Entry) → entry_of bsize bytes ≡ Ok e → passes bsize e ≡ true
entry_passes bsize bytes e is =
    let tests = entry_is bsize bytes e is in
    subst (λ (x : Entry). passes bsize x ≡ true) tests.fields (fields_pass bsize bytes tests.mode tests.long tests.counts tests.levels tests.stamp)

pub entries_pass : (bsize number : ℕ) (pieces : List (List ℕ)) (es : List Entry) → entries_of bsize number pieces ≡ Ok es → All (λ e. passes bsize e ≡ true) es
unfolding entries_of
entries_pass bsize number [] es is = subst (All (λ e. passes bsize e ≡ true)) (ok_same [] es is) (All-nil (λ e. passes bsize e ≡ true))
entries_pass bsize number (bytes ∷ rest) es is =
    bind_then (blamed (failed.Entry number) (entry_of bsize bytes)) _ es is (λ one is_one e1.
    bind_then (entries_of bsize (number + 1) rest) _ es e1 (λ more is_more e2.
    subst (All (λ e. passes bsize e ≡ true)) (ok_same (as_read one ∷ more) es e2)
    (All-cons (λ e. passes bsize e ≡ true) (as_read one) more (passes_so bsize one ∙ entry_passes bsize bytes one (blamed_ok (failed.Entry number) (entry_of bsize bytes) one is_one))
    (entries_pass bsize (number + 1) rest more is_more))))

pub entries_stand : (n count blocks leaves bsize : ℕ) → n ≡ count - 2 → 2 ≤ count → count * 64 ≤ blocks * bsize → leaves ≡ blocks → (n + 2) * 64 ≤ leaves * bsize
entries_stand n count blocks leaves bsize is some fits same = let e : n + 2 ≡ count = omega arith in rw (e, same) fits
