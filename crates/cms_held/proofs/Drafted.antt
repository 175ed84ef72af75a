-- A finished draft holds its file.
use Rattle.std.proofs.Common.{◌≡◌, ⊎_elim, ℕ, zero, suc, ◌+◌, ◌-◌, ◌*◌, ◌/◌, ◌<◌, ◌≤◌, List, [], ◌∷◌, ◌++◌, length, take, drop, All, None, Ok, refl, sym, ◌∙◌, ap, subst, arith, append_assoc, append-nil}
use Rattle.std.specs.Prelude.{replicate}
use Rattle.std.proofs.lemmas.Bool.{cases_lt}
use Rattle.std.proofs.lemmas.List.{drop-drop, take_all, drop_all, length-take, length-drop, length-replicate, take-append-drop}
use Rattle.cms_names.specs.declared.name.Format.{Format}
use Rattle.cms_names.specs.declared.name.Format.TheVariants.{F, V}
use Rattle.cms_fields.specs.Numbers.{up}
use Rattle.cms_fields.specs.Entries.{fan_of, pointer_size}
use Rattle.cms_journal.specs.Journal.{IsBlockSize}
use Rattle.cms_model.specs.Trees.{Image, Form, form_of, tree, bytes_at}
use Rattle.cms_model.specs.Sizes.{levels}
use Rattle.cms_model.specs.Records.{Fits, stored, records_of}
use Rattle.cms_model.specs.Built.{ReadsAs}
use Rattle.cms_model.proofs.Quotients.{up_spec}
use Rattle.cms_model.proofs.Records.{cut_stored, read_stored}
use Rattle.cms_model.proofs.TreeFrame.{tree_keeps}
use Rattle.cms_tree.specs.Builds.{root_of}
use Rattle.cms_tree.proofs.BuiltTrees.{built_is_tree}
use Rattle.cms_held.specs.Drafts.{filled, data_block, HasData, DraftHolds}
use Rattle.cms_held.specs.SharedTrees.{IsStanding}
use Rattle.cms_held.proofs.TreesStay.{built_stands}

replicate_both : (a b : ℕ) → ◌++◌ {A = ℕ} (replicate a 0) (replicate b 0) ≡ replicate (a + b) 0
replicate_both zero b = let e : 0 + b ≡ b = omega arith in rw e refl
replicate_both (suc a) b = let e : suc a + b ≡ suc (a + b) = omega arith in rw e (ap (λ (l : List ℕ). 0 ∷ l) (replicate_both a b))

-- the next data block of stored bytes is the first of those behind the first block
next_block : (bsize k : ℕ) (bytes : List ℕ) → data_block bsize bytes (suc k) ≡ data_block bsize (drop bsize bytes) k
next_block bsize k bytes =
    let e : suc k * bsize ≡ bsize + k * bsize = omega arith in
    let same : drop (suc k * bsize) bytes ≡ drop (k * bsize) (drop bsize bytes) = ap (λ (n : ℕ). drop n bytes) e ∙ sym (drop-drop (k * bsize) bsize bytes) in
    ap (λ (l : List ℕ). filled bsize (take bsize l)) same

-- the bytes of the data blocks are the stored bytes and zeros
pub data_bytes : (image : Image) (bsize : ℕ) (leaves bytes : List ℕ) → length bytes ≤ length leaves * bsize → HasData image bsize leaves bytes
    → bytes_at image leaves ≡ bytes ++ replicate (length leaves * bsize - length bytes) 0
unfolding bytes_at
data_bytes image bsize [] [] fits has = let none : 0 * bsize - 0 ≡ 0 = omega arith in rw none refl
data_bytes image bsize [] (b ∷ bytes) fits has = absurd (omega arith)
data_bytes image bsize (n ∷ ns) bytes fits has =
    let own = take bsize bytes in
    let behind = drop bsize bytes in
    let long = length-take bsize bytes in
    let rest = length-drop bsize bytes in
    let none : 0 * bsize ≡ 0 = omega arith in
    let first : image n ≡ filled bsize own = has 0 (omega arith) ∙ ap (λ (k : ℕ). filled bsize (take bsize (drop k bytes))) none in
    let more = data_bytes image bsize ns behind (omega arith) (λ k less. has (suc k) (omega arith) ∙ next_block bsize k bytes) in
    let all : image n ++ bytes_at image ns ≡ (own ++ replicate (bsize - length own) 0) ++ (behind ++ replicate (length ns * bsize - length behind) 0) =
    ap (λ (l : List ℕ). l ++ bytes_at image ns) first ∙ ap (λ (l : List ℕ). (own ++ replicate (bsize - length own) 0) ++ l) more in
    ⊎_elim
    (λ (less : length bytes < bsize).
    let whole : own ≡ bytes = take_all bsize bytes (omega arith) in
    let nothing : behind ≡ [] = drop_all bsize bytes (omega arith) in
    let zeros : length behind ≡ 0 = omega arith in
    let own_long : length own ≡ length bytes = ap (λ (l : List ℕ). length l) whole in
    let e : bsize - length bytes + length ns * bsize ≡ suc (length ns) * bsize - length bytes = omega arith in
    let e' : length ns * bsize - 0 ≡ length ns * bsize = omega arith in
    all ∙ (rw (zeros, own_long, e', nothing, whole) refl)
    ∙ append_assoc bytes (replicate (bsize - length bytes) 0) (replicate (length ns * bsize) 0)
    ∙ ap (λ (l : List ℕ). bytes ++ l) (replicate_both (bsize - length bytes) (length ns * bsize) ∙ ap (λ (m : ℕ). replicate m 0) e))
    (λ (more' : bsize ≤ length bytes).
    let full : bsize - length own ≡ 0 = omega arith in
    let e : length ns * bsize - length behind ≡ suc (length ns) * bsize - length bytes = omega arith in
    all ∙ (rw (full, e) refl) ∙ ap (λ (l : List ℕ). l ++ (behind ++ replicate (suc (length ns) * bsize - length bytes) 0)) (append-nil own)
    ∙ sym (append_assoc own behind (replicate (suc (length ns) * bsize - length bytes) 0))
    ∙ ap (λ (l : List ℕ). l ++ replicate (suc (length ns) * bsize - length bytes) 0) (take-append-drop bsize bytes))
    (cases_lt (length bytes) bsize)

-- stored records are read again
records_back : (bsize : ℕ) (format : Format) (size count : ℕ) (records : List (List ℕ)) (rest : List ℕ) → All (Fits format size) records → length rest < bsize → count ≡ length records
    → records_of bsize format size count (stored format records ++ rest) ≡ Ok records
unfolding records_of
records_back bsize F size count records rest each short is = rw is (ap (λ (l : List (List ℕ)). Ok l) (cut_stored size records rest each))
records_back bsize V size count records rest each short is = rw is (read_stored bsize size 0 records rest each short)

some_size : (bsize : ℕ) → IsBlockSize bsize → 0 < bsize
some_size bsize size = omega (arith, size)

pub fan_is : (bsize : ℕ) (f : Format) → bsize / pointer_size f ≡ fan_of bsize f
fan_is bsize F = refl
fan_is bsize V = refl

pub draft_holds : DraftHolds
draft_holds disk total image e leaves marks fresh records d =
    let bytes = stored e.format records in
    let some = some_size disk.bsize d.plan.size in
    let tight = up_spec (length bytes) disk.bsize some in
    let low = tight.0 in
    let high = tight.1 in
    let n : length leaves * disk.bsize ≡ up (length bytes) disk.bsize * disk.bsize = ap (λ (m : ℕ). m * disk.bsize) d.size in
    let rest = replicate (length leaves * disk.bsize - length bytes) 0 in
    let long : length rest ≡ length leaves * disk.bsize - length bytes = length-replicate (length leaves * disk.bsize - length bytes) 0 in
    let short : length rest < disk.bsize = omega arith in
    let whole = data_bytes image disk.bsize leaves bytes (omega arith) d.has_data in
    let fan = fan_is disk.bsize e.format in
    let form : Form = record { fan = disk.bsize / pointer_size e.format; stride = pointer_size e.format; last = total } in
    let form_same : form ≡ form_of disk.bsize total e.format = rw fan refl in
    let k = levels (disk.bsize / pointer_size e.format) (length leaves) in
    let reads : ReadsAs form image k None 0 (root_of leaves fresh) leaves fresh =
    built_is_tree disk.bsize (pointer_size e.format) total None 0 leaves marks fresh image d.plan d.small d.words d.data_allowed d.nodes_allowed d.nodes in
    let k_is : k ≡ e.levels = ap (λ (f : ℕ). levels f (length leaves)) fan ∙ sym d.levels_are in
    let tree_is : (holder : ℕ) → tree (form_of disk.bsize total e.format) image e.levels None holder e.root e.blocks ≡ Ok reads.met =
    (λ holder. rw (← form_same, ← k_is, d.root, d.blocks) (tree_keeps form image image k None 0 holder (root_of leaves fresh) (length leaves) reads.met reads.is (λ n is. refl))) in
    record {
      met = reads.met;
      holds = record {
        met = tree_is;
        records = ap (λ (l : List ℕ). records_of disk.bsize e.format e.length e.count (bytes_at image l)) reads.leaves_are
            ∙ ap (records_of disk.bsize e.format e.length e.count) whole ∙ records_back disk.bsize e.format e.length e.count records rest d.each short d.count;
      };
      leaves_are = reads.leaves_are;
      blocks_are = reads.blocks_are;
      stands = subst (λ (f : Form). IsStanding f image (record { leaves = leaves; pointers = fresh })) form_same
          (built_stands disk.bsize (pointer_size e.format) total leaves marks fresh image d.plan d.small d.words d.nodes_allowed d.nodes);
    }
