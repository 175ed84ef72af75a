-- What is made of an empty volume is ready to be written.
use Rattle.std.proofs.Common.{◌≡◌, inl, inr, ℕ, ◌*◌, ◌<◌, ◌≤◌, List, [], ◌∷◌, ◌++◌, length, get_or, All, sym, ◌∙◌, ap, subst, arith}
use Rattle.std.specs.List.{range_with_len}
use Rattle.std.proofs.lemmas.List.Elements.{All-nil, All-cons, All-get_or}
use Rattle.std.proofs.lemmas.List.FromFn.{length-range_with_len}
use Rattle.cms_fields.specs.Numbers.{up}
use Rattle.cms_fields.specs.declared.time.Stamp.{Stamp}
use Rattle.cms_model.specs.Lists.{In}
use Rattle.cms_model.specs.SharedTrees.{MayBeWritten}
use Rattle.cms_model.specs.Sizes.{map_size}
use Rattle.cms_model.proofs.Quotients.{up_spec}
use Rattle.cms_held.specs.EmptyVolumes.{MakePlan, IsEmptyVolume}
use Rattle.cms_held.specs.Systems.{TreePart, whole_part}
use Rattle.cms_held.proofs.Allotted.{map_some}
use Rattle.cms_held.proofs.Made.{directory_long, facts, laid_out}
use Rattle.cms_held.proofs.NewMap.{row_all}
use Rattle.cms_edf.specs.BlockWrites.{IsBlockOf}
use Rattle.cms_edf.specs.Doubts.{AreAt, IsReady}
use Rattle.cms_edf.specs.NewDirectories.{GoesOn, NewDirectory}
use Rattle.cms_edf.proofs.PartsReady.{left_all, right_all}

-- all places of a list
at_all : (total : ℕ) (blocks places : List ℕ) → places ≡ range_with_len 0 (length blocks) → All (IsBlockOf total) blocks → AreAt total blocks places
at_all total blocks places is all =
    subst (AreAt total blocks) (sym is)
    (row_all (λ j. (j < length blocks) × IsBlockOf total (get_or blocks j 0)) 0 (length blocks)
    (λ n from to. let less : n < length blocks = omega arith in (less, All-get_or (IsBlockOf total) blocks n 0 less all)))

-- the directory is written whole
pub first_goes_on : (leaves : List ℕ) (d : NewDirectory) → leaves ≡ 4 ∷ [] → d.tree.leaves ≡ 4 ∷ [] → d.part ≡ whole_part d.tree → GoesOn leaves d
first_goes_on leaves d held new part =
    let places : d.part.leaves ≡ 0 ∷ [] = ap (λ (p : TreePart). p.leaves) part ∙ ap (λ (l : List ℕ). range_with_len 0 (length l)) new in
    let one = ap (λ (l : List ℕ). length l) held in
    let one' = ap (λ (l : List ℕ). length l) new in
    record {
      may = subst (MayBeWritten (length leaves) (length d.tree.leaves)) (sym places) (record {
        ascend = λ k less. absurd (omega (arith, less));
        within = λ j there. only j there (omega (arith, one'));
        grown = λ j low high. inl (omega (arith, high, one'));
      });
      same = λ j less isnt. absurd (isnt (subst (In j) (sym places) (inl (omega (arith, less, one')))));
      few = omega (arith, one, one');
    }
  where
    only : (j : ℕ) → In j (0 ∷ []) → 0 < length d.tree.leaves → j < length d.tree.leaves
    only j (inl same) some = omega arith
    only j (inr more) some = absurd more

-- the entries of a new directory
pub two_are : (first second own maps before two : List ℕ) → before ≡ [] → two ≡ before ++ (own ++ maps) → own ≡ first → maps ≡ second → two ≡ first ++ second
two_are first second own maps before two none is own_is maps_are = is ∙ (λ i. none i ++ (own_is i ++ maps_are i))

pub made_ready : (m : MakePlan) (volid : List ℕ) (stamp : Stamp) → IsEmptyVolume m volid stamp → IsReady m.disk.bsize m.systems
made_ready m volid stamp e =
    let f = facts m e in
    let l = laid_out m e in
    let low = f.low in let high = f.high in let room = f.room in let least = e.least in let most = e.most in let blocks = f.blocks in
    let size = m.disk.bsize in
    let k = map_size size m.disk.count in
    let one : length m.systems.directory.leaves ≡ 1 = ap (λ (x : List ℕ). length x) f.leaves in
    let total = m.systems.label.blocks in
    let count = e.map_count in
    let some : 1 ≤ length m.systems.map.leaves = (let s = map_some m.disk.count size low (omega arith) in omega arith) in
    let bytes : length m.systems.map.leaves * size ≡ up (up m.disk.count 8) size * size = ap (λ (n : ℕ). n * size) count in
    let first = (up_spec m.disk.count 8 (omega arith)).1 in
    let second = (up_spec (up m.disk.count 8) size (omega arith)).1 in
    let places : length m.systems.directory_part.leaves ≡ length m.systems.directory.leaves =
    ap (λ (p : TreePart). length p.leaves) e.directory_part ∙ length-range_with_len 0 (length m.systems.directory.leaves) in
    let directory : All (IsBlockOf total) (m.systems.directory.leaves ++ m.systems.directory.pointers) =
    subst (All (IsBlockOf total)) (sym (ap (λ (x : List ℕ). x ++ m.systems.directory.pointers) f.leaves ∙ ap (λ (x : List ℕ). 4 ∷ x) f.pointers))
    (All-cons (IsBlockOf total) 4 [] (omega arith, omega arith) (All-nil (IsBlockOf total))) in
    let map : All (IsBlockOf total) (m.systems.map.leaves ++ m.systems.map.pointers) =
    subst (All (IsBlockOf total)) (sym e.map_from) (row_all (IsBlockOf total) 6 k (λ n from to. (omega arith, omega arith))) in
    record {
      size = e.size;
      label_long = l.label_long;
      label_within = omega arith;
      directory_some = omega arith;
      directory_few = omega arith;
      directory_first = omega arith;
      directory_long = directory_long m e ∙ ap (λ (n : ℕ). n * size) (sym places);
      directory_nodes = l.directory_nodes;
      directory_at = at_all total m.systems.directory.leaves m.systems.directory_part.leaves (ap (λ (p : TreePart). p.leaves) e.directory_part)
          (left_all (IsBlockOf total) m.systems.directory.leaves m.systems.directory.pointers directory);
      directory_nodes_at = at_all total m.systems.directory.pointers m.systems.directory_part.nodes (ap (λ (p : TreePart). p.nodes) e.directory_part)
          (right_all (IsBlockOf total) m.systems.directory.leaves m.systems.directory.pointers directory);
      map_some = some;
      map_few = omega arith;
      map_nodes = e.map_nodes;
      map_at = at_all total m.systems.map.leaves m.systems.map_part.leaves (ap (λ (p : TreePart). p.leaves) e.map_part)
          (left_all (IsBlockOf total) m.systems.map.leaves m.systems.map.pointers map);
      map_nodes_at = at_all total m.systems.map.pointers m.systems.map_part.nodes (ap (λ (p : TreePart). p.nodes) e.map_part)
          (right_all (IsBlockOf total) m.systems.map.leaves m.systems.map.pointers map);
    }
