use Rattle.std.proofs.Common.{rules, ◌≡◌, ◌++◌, ◌∷◌, [], ◌+◌, ◌<◌, ℕ, true, List, Err, None, length, map, take, get_or, refl, sym, ◌∙◌, ap, subst, arith, append_assoc, append-nil, ◌≤◌}
use Rattle.std.specs.Map.{keys_of}
use Rattle.std.specs.Vec.Iter.{into_iter_items}
use Rattle.std.proofs.lemmas.List.{length_push, map_push, nil_from_length}
use Rattle.std.proofs.lemmas.List.Elements.{All-nil, All-push}
use Rattle.indexmap.specs.IndexMap.{values}
use Rattle.cms_journal.specs.Journal.{contents_of}
use Rattle.cms_names.specs.declared.name.Name.{Name}
use Rattle.cms_fields.specs.Entries.{passes}
use Rattle.cms_fields.specs.declared.entry.Entry.{Entry}
use Rattle.cms_model.specs.Trees.{image_of}
use Rattle.cms_tree.specs.Walks.{IsWithin}
use Rattle.cms_tree.specs.declared.types.Walked.{Walked}
use Rattle.cms_held.specs.HeldVolumes.{HeldFile}
use Rattle.cms_edf.specs.EntryShapes.{EndsIn, HasSize}
use Rattle.cms_held.specs.Kept.{IsKeptFile}
use Rattle.cms_edf.proofs.FilesNamed.{keys_named, values_next, named_next, file_kept}
use Rattle.cms_edf.proofs.FileTrees.{taken_next}
use Rattle.cms_edf.proofs.NamesMet.{name_is_new}
use Rattle.cms_edf.proofs.RecordsRead.{ContentsTo, contents_first, contents_next, contents_bad, contents_last, count_at, nodes_at, taken_is}
use Rattle.cms_edf.proofs.TreesRead.{plain_block}
use Rattle.cms_edf.proofs.Exits.{ok_at_err, memory_at_err, reads_at_err, reads_behind, reads_so_far, same_at_err}
use Rattle.std.proofs.lemmas.Map.Entries.{length-values_of}
use Rattle.cms_fields.specs.Limits.{most_files}
use Rattle.cms_edf.proofs.Faults.{fault_memory}
use Rattle.cms_edf.proofs.contents.read_contents.Goals as goal

index_at : (entries : List Entry) (nth k : ℕ) (e : Entry) → nth ≡ k → e ≡ get_or entries nth e → e ≡ get_or entries k e
index_at entries nth k e same is = subst (λ (n : ℕ). e ≡ get_or entries n e) same is

less_of : (k trees entries : ℕ) → k < trees → trees ≡ entries → k < entries
less_of k trees entries less same = omega arith

-- faults of more reads are no fewer
later_than : (a b c : ℕ) → a ≤ b → b ≤ c → a ≤ c
later_than a b c later last = omega arith

less_at : (nth k n : ℕ) → k < n → (trees entries : ℕ) → n ≡ trees → trees ≡ entries → k < entries
less_at nth k n less trees entries a b = omega arith

pub loop-tree-init : goal.loop-tree-init
loop-tree-init g c = let empty : c.new-files.result.entries ≡ [] = search rules in record {
  trees = refl;
  len = search rules;
  many = search rules;
  named = rw empty refl;
  names = rw empty refl;
  each = rw empty (All-nil (IsKeptFile c.args.place.now.bsize c.args.place.now.total));
  contents = λ j told. rw empty (contents_first c.args.place.now.bsize (image_of (contents_of j c.args.place.now.unit)) c.args.entries.now (into_iter_items c.into_iter-tree-iterator.result));
  told = refl;
  faults = omega arith;
  edges = refl;
}

pub read_sizes-requires-clause-count : goal.read_sizes-requires-clause-count
read_sizes-requires-clause-count g c =
    let l = c.loop-tree in
    let k = length l.yielded in
    let gives = c.into_iter-tree-iterator.ensures.into_iter_gives.0 in
    let steps : into_iter_items l.tree-iterator ≡ c.in-Some.tree ∷ into_iter_items c.next.new.self = c.in-Some.ensures.steps.0 in
    let item = taken_is l.yielded c.in-Some.tree (into_iter_items c.next.new.self) c.args.trees.items (ap (λ (r : List Walked). l.yielded ++ r) (sym steps) ∙ (l.invariant.trees ∙ gives)) in
    let many = l.invariant.many in
    let nth : c.len-nth.result ≡ k = c.len-nth.ensures.len ∙ l.invariant.many in
    let count = c.requires.count in
    let leaves : c.deref.result.now ≡ c.in-Some.tree.leaves.items = c.deref.ensures.value in
    ap length leaves ∙ count_at c.args.place.now.bsize c.args.entries.now c.args.trees.items k c.index-entries-nth.result c.in-Some.tree c.requires.counts (less_of _ _ _ item.0 count) item.0
    (index_at c.args.entries.now c.len-nth.result k c.index-entries-nth.result nth c.index-entries-nth.is) item.1

pub read_sizes-requires-clause-blocks : goal.read_sizes-requires-clause-blocks
read_sizes-requires-clause-blocks g c = λ j told at less.
    let l = c.loop-tree in
    let k = length l.yielded in
    let gives = c.into_iter-tree-iterator.ensures.into_iter_gives.0 in
    let steps : into_iter_items l.tree-iterator ≡ c.in-Some.tree ∷ into_iter_items c.next.new.self = c.in-Some.ensures.steps.0 in
    let item = taken_is l.yielded c.in-Some.tree (into_iter_items c.next.new.self) c.args.trees.items (ap (λ (r : List Walked). l.yielded ++ r) (sym steps) ∙ (l.invariant.trees ∙ gives)) in
    let leaves : c.deref.result.now ≡ c.in-Some.tree.leaves.items = c.deref.ensures.value in
    let within : IsWithin c.args.place.now.total None c.in-Some.tree = subst (IsWithin c.args.place.now.total None) (sym item.1) (c.requires.within k c.in-Some.tree item.0) in
    plain_block j c.args.place.now.unit c.args.place.now.total c.args.place.now.bsize c.in-Some.tree c.deref.result.now at leaves less within (c.requires.blocks j (sym l.invariant.told ∙ told))

pub insert-requires : goal.insert-requires
insert-requires g c =
    let l = c.loop-tree in
    let a = c.args in
    let k = length l.yielded in
    let gives = c.into_iter-tree-iterator.ensures.into_iter_gives.0 in
    let steps : into_iter_items l.tree-iterator ≡ c.in-Some.tree ∷ into_iter_items c.next.new.self = c.in-Some.ensures.steps.0 in
    let item = taken_is l.yielded c.in-Some.tree (into_iter_items c.next.new.self) a.trees.items (ap (λ (r : List Walked). l.yielded ++ r) (sym steps) ∙ (l.invariant.trees ∙ gives)) in
    let many = l.invariant.many in
    let nth : c.len-nth.result ≡ k = c.len-nth.ensures.len ∙ l.invariant.many in
    let count = c.requires.count in
    let at = index_at a.entries.now c.len-nth.result k c.index-entries-nth.result nth c.index-entries-nth.is in
    let name_is : c.file_of.result.entry.name ≡ c.index-entries-nth.result.name = ap (λ (f : HeldFile). f.entry.name) c.file_of.ensures.is in
    let keys_are = ap keys_of l.invariant.named ∙ (keys_named (values l.files) ∙ l.invariant.names) in
    record { new = rw (name_is, keys_are) (name_is_new a.entries.now k c.index-entries-nth.result c.requires.names (less_of _ _ _ item.0 count) at) }

pub returns-in-Err-clause-fault : goal.returns-in-Err-clause-fault
returns-in-Err-clause-fault g c = λ j told.
    let l = c.loop-tree in
    let a = c.args in
    let k = length l.yielded in
    let gives = c.into_iter-tree-iterator.ensures.into_iter_gives.0 in
    let steps : into_iter_items l.tree-iterator ≡ c.in-Some.tree ∷ into_iter_items c.next.new.self = c.in-Some.ensures.steps.0 in
    let item = taken_is l.yielded c.in-Some.tree (into_iter_items c.next.new.self) a.trees.items (ap (λ (r : List Walked). l.yielded ++ r) (sym steps) ∙ (l.invariant.trees ∙ gives)) in
    let nth : c.len-nth.result ≡ k = c.len-nth.ensures.len ∙ l.invariant.many in
    let count = c.requires.count in
    let leaves : c.deref.result.now ≡ c.in-Some.tree.leaves.items = c.deref.ensures.value in
    let image = image_of (contents_of j a.place.now.unit) in
    contents_bad a.place.now.bsize image a.entries.now a.trees.items k (c.len-nth.result + 2) c.index-entries-nth.result c.in-Some.tree c.deref.result.now (values l.files) c.in-Err.fault
    (less_of _ _ _ item.0 count) (index_at a.entries.now c.len-nth.result k c.index-entries-nth.result nth c.index-entries-nth.is) item.0 item.1 (ap (λ (n : ℕ). n + 2) nth) leaves
    (c.in-Err.ensures.fault j (l.invariant.told ∙ told))
    (subst (λ (ws : List Walked). ContentsTo a.place.now.bsize image a.entries.now ws k (values l.files)) gives (l.invariant.contents j told))

pub loop-tree-preserved : goal.loop-tree-preserved
loop-tree-preserved g c =
    let l = c.loop-tree in
    let a = c.args in
    let k = length l.yielded in
    let gives = c.into_iter-tree-iterator.ensures.into_iter_gives.0 in
    let steps : into_iter_items l.tree-iterator ≡ c.in-Some.tree ∷ into_iter_items c.next.new.self = c.in-Some.ensures.steps.0 in
    let item = taken_is l.yielded c.in-Some.tree (into_iter_items c.next.new.self) a.trees.items (ap (λ (r : List Walked). l.yielded ++ r) (sym steps) ∙ (l.invariant.trees ∙ gives)) in
    let nth : c.len-nth.result ≡ k = c.len-nth.ensures.len ∙ l.invariant.many in
    let count = c.requires.count in
    let many = l.invariant.many in
    let leaves : c.deref.result.now ≡ c.in-Some.tree.leaves.items = c.deref.ensures.value in
    let one : length (l.yielded ++ (c.in-Some.tree ∷ [])) ≡ k + 1 = length_push l.yielded c.in-Some.tree in
    let grown = c.in_ok-insert.ensures.ok in
    let values_are = values_next l.files.entries c.insert.new.files.entries c.file_of.result grown in
    let was = l.invariant.len in
    let gone = c.in-Some.ensures.steps.1 in
    let short = ap length steps in
    let at = index_at a.entries.now c.len-nth.result k c.index-entries-nth.result nth c.index-entries-nth.is in
    let less : k < length a.entries.now = less_of _ _ _ item.0 count in
    let name_is : c.file_of.result.entry.name ≡ c.index-entries-nth.result.name = ap (λ (f : HeldFile). f.entry.name) c.file_of.ensures.is in
    let sizes = c.in-Ok.ensures in
    record {
      trees = append_assoc l.yielded (c.in-Some.tree ∷ []) _ ∙ rw (← steps) l.invariant.trees;
      len = omega arith;
      many = rw (grown, one) (length_push l.files.entries _ ∙ ap (λ (n : ℕ). n + 1) many);
      contents = λ j told.
          let image = image_of (contents_of j a.place.now.unit) in
          rw (values_are, one)
          (subst (λ (ws : List Walked). ContentsTo a.place.now.bsize image a.entries.now ws (k + 1) (values l.files ++ (c.file_of.result ∷ []))) (sym gives)
          (contents_next a.place.now.bsize image a.entries.now a.trees.items k (c.len-nth.result + 2) c.index-entries-nth.result c.in-Some.tree c.deref.result.now c.in-Ok.told
          (values l.files) c.file_of.result
          less at item.0 item.1 (ap (λ (n : ℕ). n + 2) nth) leaves c.file_of.ensures.is
          (sizes.read j (l.invariant.told ∙ told))
          (subst (λ (ws : List Walked). ContentsTo a.place.now.bsize image a.entries.now ws k (values l.files)) gives (l.invariant.contents j told))));
      named = named_next l.files.entries c.insert.new.files.entries c.file_of.result grown l.invariant.named;
      names = rw (values_are, one)
          (map_push (λ (f : HeldFile). f.entry.name) (values l.files) c.file_of.result
          ∙ (ap (λ (ns : List Name). ns ++ (c.file_of.result.entry.name ∷ [])) l.invariant.names
          ∙ (ap (λ (n : Name). map (λ (x : Entry). x.name) (take k a.entries.now) ++ (n ∷ [])) name_is
          ∙ (sym (map_push (λ (x : Entry). x.name) (take k a.entries.now) c.index-entries-nth.result)
          ∙ ap (map (λ (x : Entry). x.name)) (sym (taken_next a.entries.now k c.index-entries-nth.result less at))))));
      each = rw values_are (All-push (IsKeptFile a.place.now.bsize a.place.now.total) (values l.files) c.file_of.result l.invariant.each
          (file_kept a.place.now.bsize a.place.now.total c.index-entries-nth.result c.in-Some.tree c.in-Ok.told c.file_of.result c.file_of.ensures.is
          (subst (λ (x : Entry). passes a.place.now.bsize x ≡ true) (sym at) (c.requires.entries k c.index-entries-nth.result less))
          c.file_of.ensures.spelled
          (subst (HasSize a.place.now.bsize) (sym at) (c.requires.sizes k c.index-entries-nth.result less))
          (count_at a.place.now.bsize a.entries.now a.trees.items k c.index-entries-nth.result c.in-Some.tree c.requires.counts less item.0 at item.1)
          (nodes_at a.place.now.bsize a.entries.now a.trees.items k c.index-entries-nth.result c.in-Some.tree c.requires.counts less item.0 at item.1)
          (subst (IsWithin a.place.now.total None) (sym item.1) (c.requires.within k c.in-Some.tree item.0)).leaves
          (subst (IsWithin a.place.now.total None) (sym item.1) (c.requires.within k c.in-Some.tree item.0)).pointers
          sizes.some sizes.longest sizes.fixed sizes.stored
          sizes.sized
          (subst (λ (l : List ℕ). EndsIn a.place.now.bsize (length l) c.in-Ok.told.sizes.stored) leaves sizes.ends)));
      told = sizes.reads.told ∙ l.invariant.told;
      faults = later_than _ _ _ l.invariant.faults sizes.reads.faults;
      edges = sizes.reads.edges ∙ l.invariant.edges;
    }

pub returns-clause-read : goal.returns-clause-read
returns-clause-read g c = λ j told.
    let l = c.loop-tree in
    let a = c.args in
    let k = length l.yielded in
    let image = image_of (contents_of j a.place.now.unit) in
    let gives = c.into_iter-tree-iterator.ensures.into_iter_gives.0 in
    let none = c.in-None.ensures.steps in
    let empty : into_iter_items l.tree-iterator ≡ [] = nil_from_length _ (sym l.invariant.len ∙ none.0) in
    let all : l.yielded ≡ a.trees.items = sym (append-nil l.yielded) ∙ (ap (λ (r : List Walked). l.yielded ++ r) (sym empty) ∙ (l.invariant.trees ∙ gives)) in
    let long = ap length all in
    let count = c.requires.count in
    contents_last a.place.now.bsize image a.entries.now a.trees.items k (values l.files) (omega (arith, long, count)) (omega (arith, long))
    (subst (λ (ws : List Walked). ContentsTo a.place.now.bsize image a.entries.now ws k (values l.files)) gives (l.invariant.contents j told))

pub returns-in_err-insert-clause-read : goal.returns-in_err-insert-clause-read
returns-in_err-insert-clause-read g c = ok_at_err _ c.from_residual.result _ c.from_residual.ensures.1

pub returns-in_err-insert-clause-names : goal.returns-in_err-insert-clause-names
returns-in_err-insert-clause-names g c = ok_at_err _ c.from_residual.result _ c.from_residual.ensures.1

pub returns-in_err-insert-clause-few : goal.returns-in_err-insert-clause-few
returns-in_err-insert-clause-few g c = ok_at_err _ c.from_residual.result _ c.from_residual.ensures.1

pub returns-in_err-insert-clause-total : goal.returns-in_err-insert-clause-total
returns-in_err-insert-clause-total g c = ok_at_err _ c.from_residual.result _ c.from_residual.ensures.1

pub returns-in_err-insert-clause-each : goal.returns-in_err-insert-clause-each
returns-in_err-insert-clause-each g c = ok_at_err _ c.from_residual.result _ c.from_residual.ensures.1

pub read_sizes-requires-clause-size : goal.read_sizes-requires-clause-size
read_sizes-requires-clause-size g c =
    let l = c.loop-tree in
    let a = c.args in
    let k = length l.yielded in
    let gives = c.into_iter-tree-iterator.ensures.into_iter_gives.0 in
    let steps : into_iter_items l.tree-iterator ≡ c.in-Some.tree ∷ into_iter_items c.next.new.self = c.in-Some.ensures.steps.0 in
    let item = taken_is l.yielded c.in-Some.tree (into_iter_items c.next.new.self) a.trees.items (ap (λ (r : List Walked). l.yielded ++ r) (sym steps) ∙ (l.invariant.trees ∙ gives)) in
    let many = l.invariant.many in
    let nth : c.len-nth.result ≡ k = c.len-nth.ensures.len ∙ l.invariant.many in
    let at = index_at a.entries.now c.len-nth.result k c.index-entries-nth.result nth c.index-entries-nth.is in
    subst (HasSize a.place.now.bsize) (sym at) (c.requires.sizes k c.index-entries-nth.result (less_of k (length a.trees.items) (length a.entries.now) item.0 c.requires.count))

pub returns-in-Err-clause-reads : goal.returns-in-Err-clause-reads
returns-in-Err-clause-reads g c =
    let l = c.loop-tree.invariant in
    reads_at_err (Err c.in-Err.fault) _ refl (reads_behind _ l.told l.faults l.edges c.in-Err.ensures.reads)

pub returns-in_err-insert-clause-fault : goal.returns-in_err-insert-clause-fault
returns-in_err-insert-clause-fault g c =
    same_at_err c.from_residual.result _ c.in_err-insert.field-0.0 c.from_residual.ensures.1 (λ j told. fault_memory _ _ c.in_err-insert.ensures.fault)

pub returns-in_err-insert-clause-reads : goal.returns-in_err-insert-clause-reads
returns-in_err-insert-clause-reads g c =
    let l = c.loop-tree.invariant in
    memory_at_err c.from_residual.result _ c.from_residual.ensures.1 c.in_err-insert.ensures.fault (reads_behind _ l.told l.faults l.edges c.in-Ok.ensures.reads)

pub returns-clause-names : goal.returns-clause-names
returns-clause-names g c = c.loop-tree.invariant.named

pub returns-clause-each : goal.returns-clause-each
returns-clause-each g c = c.loop-tree.invariant.each

pub returns-clause-reads : goal.returns-clause-reads
returns-clause-reads g c =
    let l = c.loop-tree.invariant in
    reads_so_far _ _ _ l.told l.faults l.edges

pub returns-clause-total : goal.returns-clause-total
returns-clause-total g c =
    let l = c.loop-tree in
    let gives = c.into_iter-tree-iterator.ensures.into_iter_gives.0 in
    let none = c.in-None.ensures.steps in
    let empty : into_iter_items l.tree-iterator ≡ [] = nil_from_length _ (sym l.invariant.len ∙ none.0) in
    let all : l.yielded ≡ c.args.trees.items = sym (append-nil l.yielded) ∙ (ap (λ (r : List Walked). l.yielded ++ r) (sym empty) ∙ (l.invariant.trees ∙ gives)) in
    length-values_of l.files.entries ∙ (l.invariant.many ∙ (ap (λ (r : List Walked). length r) all ∙ c.requires.count))

pub returns-clause-few : goal.returns-clause-few
returns-clause-few g c =
    let l = c.loop-tree in
    let gives = c.into_iter-tree-iterator.ensures.into_iter_gives.0 in
    let none = c.in-None.ensures.steps in
    let empty : into_iter_items l.tree-iterator ≡ [] = nil_from_length _ (sym l.invariant.len ∙ none.0) in
    let all : l.yielded ≡ c.args.trees.items = sym (append-nil l.yielded) ∙ (ap (λ (r : List Walked). l.yielded ++ r) (sym empty) ∙ (l.invariant.trees ∙ gives)) in
    subst (λ (n : ℕ). n ≤ most_files) (sym (length-values_of l.files.entries ∙ (l.invariant.many ∙ (ap (λ (r : List Walked). length r) all ∙ c.requires.count)))) c.requires.few

pub returns-clause-fault : goal.returns-clause-fault
returns-clause-fault g c = tt

pub returns-in-Err-clause-read : goal.returns-in-Err-clause-read
returns-in-Err-clause-read g c = tt

pub returns-in-Err-clause-names : goal.returns-in-Err-clause-names
returns-in-Err-clause-names g c = tt

pub returns-in-Err-clause-few : goal.returns-in-Err-clause-few
returns-in-Err-clause-few g c = tt

pub returns-in-Err-clause-total : goal.returns-in-Err-clause-total
returns-in-Err-clause-total g c = tt

pub returns-in-Err-clause-each : goal.returns-in-Err-clause-each
returns-in-Err-clause-each g c = tt
