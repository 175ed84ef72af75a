-- What is allotted for an update, put together, and what is planned with it.
use Rattle.std.proofs.Common.{◌≡◌, ℕ, ◌+◌, ◌-◌, ◌/◌, ◌≤◌, List, ◌∷◌, ◌++◌, length, map, take, drop, sym, ◌∙◌, ap, subst, arith}
use Rattle.std.specs.List.{concat}
use Rattle.cms_fields.specs.declared.entry.Entry.{Entry}
use Rattle.cms_fields.specs.declared.time.Stamp.{Stamp}
use Rattle.cms_model.specs.DirectoryParts.{blocks_made, directory_count}
use Rattle.cms_model.specs.Sizes.{map_size}
use Rattle.cms_map.specs.Bits.{free_blocks, with_marked}
use Rattle.cms_map.specs.Touched.{AreTouched}
use Rattle.cms_held.specs.Allotments.{IsPartAllotted, IsPlanned, KeepsTree, files_fresh, files_released, nodes_fresh, on_map, part_fresh, part_released, parts_of}
use Rattle.cms_held.specs.EntryPlaces.{IsEnoughFor}
use Rattle.cms_held.specs.HeldVolumes.{HeldTree, HeldVolume}
use Rattle.cms_held.specs.MapShares.{turned}
use Rattle.cms_held.specs.Renewals.{Edit, entries_held, needed, with_freed}
use Rattle.cms_held.specs.SharedBlocks.{fresh_of, released_of}
use Rattle.cms_held.specs.Systems.{Systems, TreePart, directory_piece}
use Rattle.cms_held.proofs.PartCases.{held_count}
use Rattle.cms_edf.specs.Allotments.{IsAllottedFor, all_fresh, all_released, given_back, need_of, own_fresh, own_released, numbers_made}
use Rattle.cms_edf.specs.ChangePlans.{IsFilled}
use Rattle.cms_edf.specs.declared.allotment.Allotment.{Allotment}
use Rattle.cms_edf.specs.declared.allotment.Exchange.{Exchange}

-- an edit as it was asked for
pub record Asks (v : HeldVolume) (x : Exchange) (a : Allotment) (entries : List Entry) (edit : Edit) : Type 0 where
  pub entries_are : entries_held edit.files ≡ entries
  pub files : x.files ≡ length entries
  pub made : edit.made ≡ numbers_made x
  pub given : edit.given ≡ given_back x
  pub taken : edit.taken ≡ a.file.items

pub files_are : (v : HeldVolume) (x : Exchange) (a : Allotment) (entries : List Entry) (edit : Edit) → Asks v x a entries edit → length edit.files ≡ x.files
files_are v x a entries edit asks = sym (held_count edit.files) ∙ (ap (λ (l : List Entry). length l) asks.entries_are ∙ sym asks.files)

-- the blocks of an edit are those that were allotted
record SameBlocks (v : HeldVolume) (x : Exchange) (a : Allotment) (edit : Edit) (s : Systems) : Type 0 where
  fresh : files_fresh v edit s (parts_of s) ≡ own_fresh v a
  released : files_released v edit s (parts_of s) ≡ own_released v x a
  all : part_fresh v edit s (parts_of s) ≡ all_fresh v a
  gone : part_released v edit s (parts_of s) ≡ all_released v x a

same_blocks : (v : HeldVolume) (x : Exchange) (a : Allotment) (entries : List Entry) (edit : Edit) (stamp : Stamp) (s : Systems) → Asks v x a entries edit → IsFilled v entries a stamp s → SameBlocks v x a edit s
same_blocks v x a entries edit stamp s asks f =
    let fan = v.disk.bsize / 4 in
    let taken = asks.taken in
    let given = asks.given in
    let d = f.directory_is in
    let dp = f.directory_part_is in
    let m = f.map_is in
    let mp = f.map_part_is in
    record {
      fresh = λ i. taken i ++ drop 1 (fresh_of fan (dp i).leaves v.directory (d i));
      released = λ i. given i ++ drop 1 (released_of fan (dp i).leaves v.directory (d i));
      all = λ i. (taken i ++ drop 1 (fresh_of fan (dp i).leaves v.directory (d i))) ++ fresh_of fan (mp i).leaves v.map (m i);
      gone = λ i. (given i ++ drop 1 (released_of fan (dp i).leaves v.directory (d i))) ++ released_of fan (mp i).leaves v.map (m i);
    }

allotted_of : (v : HeldVolume) (x : Exchange) (a : Allotment) (entries : List Entry) (edit : Edit) (stamp : Stamp) (s : Systems) → IsAllottedFor v x a → IsFilled v entries a stamp s → Asks v x a entries edit
    → IsEnoughFor v.disk.bsize (entries_held v.files) entries (blocks_made v.disk.bsize (length entries) (numbers_made x)) → IsPartAllotted v edit s (parts_of s)
allotted_of v x a entries edit stamp s al f asks enough =
    let bsize = v.disk.bsize in
    let fan = bsize / 4 in
    let total = v.label.blocks in
    let same = same_blocks v x a entries edit stamp s asks f in
    let d = f.directory_is in
    let dp = f.directory_part_is in
    let m = f.map_is in
    let mp = f.map_part_is in
    let written : s.directory_part.leaves ≡ blocks_made bsize (length entries) (numbers_made x) = ap (λ (p : TreePart). p.leaves) dp ∙ (al.written ∙ ap (λ (n : ℕ). blocks_made bsize n (numbers_made x)) asks.files) in
    record {
      origin = subst (λ (t : HeldTree). t.leaves ≡ (9 - v.label.origin) ∷ drop 1 t.leaves) (sym d) al.origin;
      directory_is = ap (λ (t : HeldTree). length t.leaves) d ∙ (al.directory_is ∙ ap (directory_count bsize) (sym (files_are v x a entries edit asks)));
      map_is = ap (λ (t : HeldTree). length t.leaves) m ∙ al.map_is;
      directory = subst (λ (t : HeldTree). KeepsTree fan s.directory_part.leaves v.directory t) (sym d)
          (subst (λ (p : TreePart). KeepsTree fan p.leaves v.directory a.directory.tree) (sym dp) al.directory);
      map = subst (λ (t : HeldTree). KeepsTree fan s.map_part.leaves v.map t) (sym m) (subst (λ (p : TreePart). KeepsTree fan p.leaves v.map a.map_tree) (sym mp) al.map);
      enough = subst (λ (l : List ℕ). IsEnoughFor bsize (entries_held v.files) (entries_held edit.files) l) (sym written)
          (subst (λ (es : List Entry). IsEnoughFor bsize (entries_held v.files) es (blocks_made bsize (length entries) (numbers_made x))) (sym asks.entries_are) enough);
      touched = subst (λ (l : List ℕ). AreTouched bsize
          (on_map total (turned (length (files_fresh v edit s (parts_of s)) + map_size bsize total) v.bits (files_fresh v edit s (parts_of s)) (files_released v edit s (parts_of s)) v.map)) l)
          (ap (λ (p : TreePart). p.leaves) (sym mp))
          (subst (λ (r : List ℕ). AreTouched bsize
          (on_map total (turned (length (files_fresh v edit s (parts_of s)) + map_size bsize total) v.bits (files_fresh v edit s (parts_of s)) r v.map)) a.map_part.leaves) (sym same.released)
          (subst (λ (l : List ℕ). AreTouched bsize (on_map total (turned (length l + map_size bsize total) v.bits l (own_released v x a) v.map)) a.map_part.leaves) (sym same.fresh) al.touched));
      lowest = subst (λ (l : List ℕ). l ≡ take (length l) (free_blocks v.bits)) (sym same.all) al.lowest;
      marks = f.bits_are ∙ (al.marks ∙ (ap (λ (l : List ℕ). with_freed l (with_marked (all_fresh v a) v.bits)) (sym same.gone)
          ∙ ap (λ (l : List ℕ). with_freed (part_released v edit s (parts_of s)) (with_marked l v.bits)) (sym same.all)));
    }

-- with what is written for it, an update is planned
pub planned_of : (v : HeldVolume) (x : Exchange) (a : Allotment) (entries : List Entry) (edit : Edit) (stamp : Stamp) (s : Systems) → IsAllottedFor v x a → IsFilled v entries a stamp s → Asks v x a entries edit
    → IsEnoughFor v.disk.bsize (entries_held v.files) entries (blocks_made v.disk.bsize (length entries) (numbers_made x)) → need_of v x ≤ length (free_blocks v.bits) → IsPlanned v edit stamp s
planned_of v x a entries edit stamp s al f asks enough room =
    let bsize = v.disk.bsize in
    let fan = bsize / 4 in
    let count = files_are v x a entries edit asks in
    let dp = f.directory_part_is in
    let mp = f.map_part_is in
    let own : length edit.taken ≡ x.file = ap (λ (l : List ℕ). length l) asks.taken ∙ al.file in
    let need : needed v (length edit.files) edit.made ≡ needed v x.files (numbers_made x) = ap (λ (n : ℕ). needed v n edit.made) count ∙ ap (needed v x.files) asks.made in
    record {
      blocks = allotted_of v x a entries edit stamp s al f asks enough;
      room = omega arith;
      label = f.systems.label;
      label_bytes = f.systems.label_bytes;
      written = ap (λ (p : TreePart). p.leaves) dp ∙ (al.written ∙ (ap (λ (n : ℕ). blocks_made bsize n (numbers_made x)) (sym count) ∙ ap (blocks_made bsize (length edit.files)) (sym asks.made)));
      directory_bytes = f.systems.directory_bytes ∙ ap (λ (es : List Entry). concat (map (directory_piece bsize s es stamp) s.directory_part.leaves)) (sym asks.entries_are);
      directory_nodes = subst (λ (t : HeldTree). s.directory_part.nodes ≡ nodes_fresh fan s.directory_part.leaves v.directory t) (sym f.directory_is)
          (subst (λ (p : TreePart). p.nodes ≡ nodes_fresh fan p.leaves v.directory a.directory.tree) (sym dp) al.directory_nodes);
      map_nodes = subst (λ (t : HeldTree). s.map_part.nodes ≡ nodes_fresh fan s.map_part.leaves v.map t) (sym f.map_is)
          (subst (λ (p : TreePart). p.nodes ≡ nodes_fresh fan p.leaves v.map a.map_tree) (sym mp) al.map_nodes);
    }
