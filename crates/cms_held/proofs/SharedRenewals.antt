-- An update that writes a part of the directory and of the map renews a volume that is held.
use Rattle.std.proofs.Common.{◌≡◌, ⊎_elim, ℕ, ◌+◌, ◌-◌, ◌≤◌, Bool, true, false, not, List, ◌∷◌, ◌++◌, length, map, drop, All, None, Some, refl, sym, ◌∙◌, ap, subst, arith}
use Rattle.std.specs.Prelude.{◌==◌, ◌&&◌, ◌||◌}
use Rattle.std.proofs.lemmas.Bool.{cases_Bool, eqb-true, eq-eqb}
use Rattle.cms_names.specs.declared.name.Format.TheVariants.{F}
use Rattle.cms_fields.specs.Numbers.{up}
use Rattle.cms_fields.specs.declared.entry.Entry.{Entry}
use Rattle.cms_model.specs.Lists.{In, holds, times}
use Rattle.cms_model.specs.Maps.{is_marked}
use Rattle.cms_model.specs.Stands.{Layout, Stands, entries_in, file_blocks, layout_blocks, mets_in, opened, records_in}
use Rattle.cms_model.specs.Trees.{Met, bytes_at, form_of}
use Rattle.cms_model.specs.Volumes.{HoldsSystem, as_read}
use Rattle.cms_model.proofs.Renewed.{renewed_stands}
use Rattle.cms_model.proofs.Repeats.{bit, hit, miss, held, held_from, times_append}
use Rattle.cms_model.proofs.Stands.{stands_opens}
use Rattle.cms_model.proofs.Updates.{update_is_whole}
use Rattle.cms_map.specs.Bits.{bits_in, with_marked}
use Rattle.cms_held.specs.HeldTrees.{FileStands}
use Rattle.cms_held.specs.LawsRenewals.{ComesFrom, LeavesFiles}
use Rattle.cms_held.specs.Renewals.{entries_held, with_freed}
use Rattle.cms_held.specs.SharedRenewals.{PartRenews, PartUpdateRenews}
use Rattle.cms_held.specs.SharedSystems.{HasSystems, ReadsParts}
use Rattle.cms_held.specs.SharedTrees.{StandsByLevels}
use Rattle.cms_held.specs.MapPlaces.{BitsStay}
use Rattle.cms_held.specs.Systems.{IsLaidOut, IsTree, directory_file, map_file}
use Rattle.cms_held.proofs.Exchanged.{Counts, exchanged, first_bit, new_blocks, new_times}
use Rattle.cms_held.proofs.MapMarks.{new_marks}
use Rattle.cms_held.proofs.Renewals.{all_of, comes_from, held_pass, same_entries}
use Rattle.cms_held.proofs.SharedSystems.{share_is_read}
use Rattle.cms_held.proofs.SharedTrees.{levels_are_read, shared_tree_stands}
use Rattle.cms_held.proofs.SystemsHeld.{held_has_systems}
use Rattle.cms_held.proofs.SystemsRead.{all_parts, first_allowed, lies_allowed}
use Rattle.cms_held.proofs.TreesStay.{trees_come}
use Rattle.cms_model.specs.DirectoryParts.{directory_count}
use Rattle.cms_held.proofs.PartCases.{Case, before_of, case_of, fresh, has, held_count, later_of, map_enough, old_lies, old_map, origins, released, same_origin, same_total, unmarked, wide, writes}
use Rattle.cms_held.proofs.PartWrites.{fields, fresh_times, label_facts, write_times, writes_apart}
use Rattle.cms_held.proofs.PartTrees.{both_share, directory_shape, late_counts, later_image, map_shape, new_block, sums}

-- ---- what is read of it

-- a block of its trees but the directory's first lies from 6 to the last
tree_block : (c : Case) (n : ℕ) → 1 ≤ times n (drop 1 c.s.directory.leaves) + times n c.s.directory.pointers + times n c.s.map.leaves + times n c.s.map.pointers → (6 ≤ n) × (n ≤ c.s.label.blocks)
tree_block c n some =
    let w = new_times c.s c.files n in
    let first = ap (times n) c.x.planned.blocks.origin ∙ first_bit n (9 - c.v.label.origin) (drop 1 c.s.directory.leaves) in
    let b = new_block c n in
    let once = b.once in
    let lies = b.lies (omega arith) (λ e. let one = hit (n == (9 - c.v.label.origin)) (eq-eqb n (9 - c.v.label.origin) e) in omega arith) in
    let high = lies.1 in
    let total = (fields c).blocks in
    (lies.0, omega arith)

-- what it leaves of the files
abbrev Leaves : Case → Type 0
Leaves c = LeavesFiles (before_of c) (later_of c) c.v c.edit c.old c.files

same_files : (c : Case) → Leaves c → map as_read (entries_held c.edit.files) ≡ entries_in c.files
same_files c left = same_entries c.files c.edit.files left.held

laid_out : (c : Case) → Leaves c → IsLaidOut c.v.disk c.s (entries_held c.edit.files)
laid_out c left =
    let f = fields c in
    let l = label_facts c in
    let p = c.x.planned in
    let blocks = f.blocks in let old_count = same_total c in let small = c.x.at.whole.small in let top = (has c).top in
    let files_few = c.x.few in
    let m = map_enough c in
    record {
      size = c.x.at.whole.size;
      spells = l.spells;
      label_long = l.long;
      blocks = omega arith;
      few = omega (arith, held_count c.edit.files);
      each = held_pass c.v.disk.bsize c.files c.edit.files left.held left.pass;
      back = c.x.back;
      first = (
        drop 1 c.s.directory.leaves,
        p.blocks.origin ∙ ap (λ (n : ℕ). n ∷ drop 1 c.s.directory.leaves) (sym f.origin),
        all_of (λ n. (6 ≤ n) × (n ≤ c.s.label.blocks)) (drop 1 c.s.directory.leaves) (λ n some. tree_block c n (omega arith)),
      );
      directory_count = p.blocks.directory_is ∙ ap (directory_count c.v.disk.bsize) (sym (held_count c.edit.files));
      directory_nodes = (directory_shape c).nodes;
      directory_within = all_of (λ n. (6 ≤ n) × (n ≤ c.s.label.blocks)) c.s.directory.pointers (λ n some. tree_block c n (omega arith));
      map_count = p.blocks.map_is ∙ ap (λ (n : ℕ). up (up n 8) c.v.disk.bsize) (old_count ∙ sym blocks);
      map_nodes = (map_shape c).nodes;
      map_within = all_of (λ n. (6 ≤ n) × (n ≤ c.s.label.blocks)) (c.s.map.leaves ++ c.s.map.pointers) (λ n some. tree_block c n (omega (arith, times_append n c.s.map.leaves c.s.map.pointers)));
      bits_count = m.count ∙ (old_count ∙ sym blocks);
      fixed = m.fixed;
    }

-- both trees stand level by level, and are read
record BothStand (c : Case) : Type 0 where
  directory : StandsByLevels (form_of c.v.disk.bsize c.v.label.blocks F) (later_of c) c.s.directory
  map : StandsByLevels (form_of c.v.disk.bsize c.v.label.blocks F) (later_of c) c.s.map

both_stand : (c : Case) → BothStand c
both_stand c =
    let form = form_of c.v.disk.bsize c.v.label.blocks F in
    let b = both_share c in
    record {
      directory = shared_tree_stands form (before_of c) (later_of c) c.parts.directory c.v.directory c.s.directory (wide c) (directory_shape c) c.x.trees.directory b.directory;
      map = shared_tree_stands form (before_of c) (later_of c) c.parts.map c.v.map c.s.map (wide c) (map_shape c) c.x.trees.map b.map;
    }

reads_of : (c : Case) → Leaves c → ReadsParts c.v.disk (later_of c) c.s (entries_held c.edit.files)
reads_of c left =
    let bsize = c.v.disk.bsize in
    let total = c.s.label.blocks in
    let same : c.v.label.blocks ≡ c.s.label.blocks = same_total c ∙ sym (fields c).blocks in
    let l = laid_out c left in
    let b = both_share c in
    let st = both_stand c in
    let form = form_of bsize total F in
    let h = held_has_systems c.j c.v c.old c.x.at in
    let part = all_parts total c.s.map.leaves c.s.map.pointers l.map_within in
    let dt = levels_are_read form (later_of c) (Some c.s.label.origin) c.s.label.origin c.s.directory (wide c) (directory_shape c)
    (first_allowed total c.s.label.origin c.s.directory.leaves l.first.0 l.first.1 l.first.2) (lies_allowed total c.s.directory.pointers l.directory_within)
    (subst (λ (n : ℕ). StandsByLevels (form_of bsize n F) (later_of c) c.s.directory) same st.directory) in
    let mt = levels_are_read form (later_of c) None c.s.label.origin c.s.map (wide c) (map_shape c)
    (lies_allowed total c.s.map.leaves part.0) (lies_allowed total c.s.map.pointers part.1)
    (subst (λ (n : ℕ). StandsByLevels (form_of bsize n F) (later_of c) c.s.map) same st.map) in
    share_is_read c.v.disk (before_of c) (later_of c) c.v.directory.leaves c.v.map.leaves c.s (entries_held c.v.files) (entries_held c.edit.files) c.v.bits c.stamp c.parts.directory c.parts.map
    l (subst (λ (n : ℕ). HasSystems c.v.disk (before_of c) n c.v.directory.leaves c.v.map.leaves (entries_held c.v.files) c.v.bits) same h)
    c.x.planned.blocks.enough (subst (λ (n : ℕ). BitsStay bsize n c.parts.map c.v.bits c.s.bits) same (map_enough c).stay) (record {
      label = (later_image c).label;
      directory = b.directory_blocks;
      map = b.map_blocks;
      directory_tree = dt;
      map_tree = mt;
    })

-- ---- the new volume

abbrev new_of : (c : Case) → Met → Met → Layout
new_of c directory map = record {
  label = c.s.label;
  directory = directory_file c.v.disk.bsize c.s (length (entries_held c.edit.files));
  directory_met = directory;
  map = map_file c.v.disk.bsize c.s;
  map_met = map;
  files = c.files;
  lost = c.old.lost;
}

new_layout_times : (c : Case) (directory map : Met) → IsTree c.s.directory directory → IsTree c.s.map map → (n : ℕ) → times n (layout_blocks (new_of c directory map)) ≡ times n (new_blocks c.s c.files)
new_layout_times c directory map d m n =
    let a = d.blocks n in
    let b = m.blocks n in
    omega (arith, times_append n directory.blocks (map.blocks ++ file_blocks c.files), times_append n map.blocks (file_blocks c.files), new_times c.s c.files n)

released_in : (c : Case) (n : ℕ) → 1 ≤ times n (released c) → (1 ≤ n) × (n ≤ c.old.label.blocks)
released_in c n some =
    let part = (sums c n).part in
    let l = old_lies c n (omega arith) in
    let low = l.low in
    (omega arith, l.high)

new_marks_are : (c : Case) (bytes : List ℕ) → bits_in c.old.label.blocks bytes ≡ c.s.bits → (n : ℕ) → 6 ≤ n → n ≤ c.old.label.blocks
    → is_marked bytes n ≡ ((is_marked (old_map c) n && not (holds (released c) n)) || holds (fresh c) n)
new_marks_are c bytes is n late high =
    let q = late_counts c n late in
    let part = q.part in
    new_marks c.old.label.blocks (old_map c) bytes (released c) (fresh c)
    (is ∙ (c.x.planned.blocks.marks ∙ ap (λ (bits : List Bool). with_freed (released c) (with_marked (fresh c) bits)) (has c).bits))
    (released_in c)
    (λ k some. let w = (unmarked c).each k some in let low = w.0 in (omega arith, w.1))
    n late high (λ some. let none = q.apart some in omega arith)

new_stands : (c : Case) → Leaves c → (r : ReadsParts c.v.disk (later_of c) c.s (entries_held c.edit.files)) → Stands c.v.disk (later_of c) (new_of c r.directory r.map)
new_stands c left r =
    let new = new_of c r.directory r.map in
    let i = later_image c in
    let f = fields c in
    let same = same_files c left in
    let bits : bits_in c.old.label.blocks (bytes_at (later_of c) r.map.leaves) ≡ c.s.bits = ap (λ (n : ℕ). bits_in n (bytes_at (later_of c) r.map.leaves)) (sym f.blocks) ∙ r.says.bits_are in
    renewed_stands c.v.disk (before_of c) (later_of c) c.old new (holds (released c)) (holds (fresh c)) (record {
      old_stands = c.x.at.stands;
      system = subst (λ (es : List Entry). HoldsSystem c.v.disk (later_of c) (record {
        label = c.s.label;
        directory = directory_file c.v.disk.bsize c.s (length (entries_held c.edit.files));
        directory_met = r.directory;
        map = map_file c.v.disk.bsize c.s;
        map_met = r.map;
        entries = es;
        mets = mets_in c.files;
        contents = records_in c.files;
        lost = c.old.lost;
      })) same (r.holds (mets_in c.files) (records_in c.files) c.old.lost);
      total = f.blocks;
      lost = refl;
      names = left.names;
      files = comes_from c.v.disk c.s.label.blocks (before_of c) (later_of c) (layout_blocks c.old) c.files i.same
          (subst (λ (n : ℕ). ComesFrom c.v.disk n (before_of c) (later_of c) (layout_blocks c.old) c.files) (same_total c ∙ sym f.blocks) left.come);
      apart = λ n. (let most = (new_block c n).once in let e = total_times n in omega arith);
      exchange = record {
        blocks = λ n late high. exchanged (layout_blocks c.old) (layout_blocks new) (released c) (fresh c) n (counts n late);
        marks = λ n late high. new_marks_are c (bytes_at (later_of c) r.map.leaves) bits n late (let b = f.blocks in omega arith);
        free = λ n is. ((unmarked c).each n (held n (fresh c) is)).2;
        had = λ n is. held_from n (layout_blocks c.old) (let some = held n (released c) is in let part = (sums c n).part in omega arith);
      };
    })
  where
    total_times : (n : ℕ) → times n (layout_blocks (new_of c r.directory r.map)) ≡ times n (new_blocks c.s c.files)
    total_times = new_layout_times c r.directory r.map r.directory_is r.map_is

    counts : (n : ℕ) → 6 ≤ n → Counts (layout_blocks c.old) (layout_blocks (new_of c r.directory r.map)) (released c) (fresh c) n
    counts n late =
        let q = late_counts c n late in
        let sum = q.sum in
        let e = total_times n in
        record { sum = omega arith; part = q.part; once = q.once; apart = q.apart }

-- ---- the whole

renews : (c : Case) → Leaves c → PartRenews c.j c.v c.edit c.stamp c.s c.parts c.old c.files
renews c left =
    let r = reads_of c left in
    let i = later_image c in
    let f = fields c in
    let new = new_of c r.directory r.map in
    let stands = new_stands c left r in
    let apart = writes_apart c in
    let st = both_stand c in
    let same : c.v.label.blocks ≡ c.s.label.blocks = same_total c ∙ sym f.blocks in
    let ups = update_is_whole c.v.disk c.j c.v.unit (writes c) c.s.label_bytes (opened c.old) (opened new) (record {
      settled = c.x.at.settled;
      apart = apart;
      opens = stands_opens c.v.disk (later_of c) new stands;
    }) in
    record {
      new = new;
      files_are = refl;
      volid_is = f.volid;
      blocks_are = f.blocks;
      lost_is = refl;
      apart = apart;
      updates = ups;
      at = record {
        whole = i.whole;
        attached = c.x.at.attached;
        settled = ups.whole;
        stands = stands;
        held = record {
          unit_is = refl;
          disk_is = refl;
          label_is = refl;
          bytes_are = sym i.label;
          directory_is = r.directory_is;
          map_is = r.map_is;
          bits_are = sym r.says.bits_are;
          files_are = left.held;
          lost_is = c.x.at.held.lost_is;
        };
        trees = record {
          directory = record {
            shape = directory_shape c;
            stands = subst (λ (n : ℕ). StandsByLevels (form_of c.v.disk.bsize n F) (later_of c) c.s.directory) same st.directory;
          };
          map = record {
            shape = map_shape c;
            stands = subst (λ (n : ℕ). StandsByLevels (form_of c.v.disk.bsize n F) (later_of c) c.s.map) same st.map;
          };
          files = subst (λ (n : ℕ). All (FileStands c.v.disk.bsize n (later_of c)) c.edit.files) same
              (trees_come c.v.disk.bsize c.v.label.blocks (before_of c) (later_of c) (layout_blocks c.old) c.edit.files i.same left.trees);
        };
      };
      trees = record {
        directory_shape = directory_shape c;
        directory = subst (λ (n : ℕ). StandsByLevels (form_of c.v.disk.bsize n F) (later_of c) c.s.directory) same st.directory;
        map_shape = map_shape c;
        map = subst (λ (n : ℕ). StandsByLevels (form_of c.v.disk.bsize n F) (later_of c) c.s.map) same st.map;
      };
    }

pub part_update_renews : PartUpdateRenews
unfolding case_of
part_update_renews j v edit stamp s parts old files x = renews (case_of j v edit stamp s parts old files x) x.leaves

-- ---- what it leaves as it was

-- each block that is taken for a file is one of the volume's, and is as it was
pub record IsTaken (c : Case) (n : ℕ) : Type 0 where
  pub low : 6 ≤ n
  pub high : n ≤ c.old.label.blocks
  pub same : later_of c n ≡ before_of c n

pub taken_stays : (c : Case) (n : ℕ) → 1 ≤ times n c.edit.taken → IsTaken c n
taken_stays c n some =
    let f = fresh_times c n in
    let t = write_times c n in
    let once = (unmarked c).once n in
    let w = (unmarked c).each n (omega arith) in
    let low = w.0 in
    let o = (origins c).high in
    let moved = same_origin c in
    let off : bit (n == (9 - c.v.label.origin)) ≡ 0 = ⊎_elim
    (λ (at : (n == (9 - c.v.label.origin)) ≡ true). let is = eqb-true n (9 - c.v.label.origin) at in absurd (omega arith))
    (λ (aside : (n == (9 - c.v.label.origin)) ≡ false). miss (n == (9 - c.v.label.origin)) aside)
    (cases_Bool (n == (9 - c.v.label.origin))) in
    record { low = low; high = w.1; same = (later_image c).aside n (omega arith) (omega arith) }

-- each of the old volume's blocks is as it was
pub old_stays : (c : Case) (n : ℕ) → In n (layout_blocks c.old) → before_of c n ≡ later_of c n
old_stays c = (later_image c).same
