-- Files that are kept under their names, and what is asked of them.
use Rattle.std.proofs.Common.{◌≡◌, ⊎_elim, ℕ, zero, suc, ◌*◌, ◌^◌, ◌<◌, ◌≤◌, true, List, [], ◌∷◌, ◌++◌, length, None, Some, refl, sym, ◌∙◌, ap, subst, arith}
use Rattle.std.specs.Map.{keys_of, values_of}
use Rattle.std.proofs.lemmas.List.{map_push}
use Rattle.cms_names.specs.declared.name.Name.{Name}
use Rattle.cms_names.specs.declared.name.Format.TheVariants.{F, V}
use Rattle.cms_names.specs.declared.name.Format.{Format}
use Rattle.cms_fields.specs.Entries.{counts_fit, fan_of, length_fits, levels_fit, passes}
use Rattle.cms_fields.specs.declared.entry.Entry.{Entry}
use Rattle.cms_model.specs.Sizes.{pointer_count}
use Rattle.cms_edf.specs.declared.contents.RecordsTold.{RecordsTold}
use Rattle.cms_tree.specs.Walks.{AreWithin}
use Rattle.cms_tree.specs.declared.types.Walked.{Walked}
use Rattle.cms_held.specs.HeldVolumes.{HeldFile, Held, by_name, names_in}
use Rattle.cms_edf.specs.EntryShapes.{EndsIn, HasSize}
use Rattle.cms_held.specs.Kept.{IsKeptFile, IsSized}
use Rattle.cms_held.specs.Written.{ReadsBack}
use Rattle.cms_edf.proofs.RecordsRead.{made}

-- the keys and values of files under their names
pub keys_named : (files : List HeldFile) → keys_of (by_name files) ≡ names_in files
keys_named [] = refl
keys_named (f ∷ fs) = ap (λ (ns : List Name). f.entry.name ∷ ns) (keys_named fs)

pub values_named : (files : List HeldFile) → values_of (by_name files) ≡ files
values_named [] = refl
values_named (f ∷ fs) = ap (λ (l : List HeldFile). f ∷ l) (values_named fs)

-- the keys of a map of the files that are held
pub keys_held : (es : List (Name × HeldFile)) (inside h : Held) → es ≡ by_name inside.volume.files → inside ≡ h → keys_of es ≡ names_in h.volume.files
keys_held es inside h named is = ap keys_of named ∙ (keys_named inside.volume.files ∙ ap (λ (x : Held). names_in x.volume.files) is)

-- one more
pub values_next : (es es' : List (Name × HeldFile)) (f : HeldFile) → es' ≡ es ++ ((f.entry.name, f) ∷ []) → values_of es' ≡ values_of es ++ (f ∷ [])
values_next es es' f is = ap values_of is ∙ map_push (λ (e : Name × HeldFile). e.1) es (f.entry.name, f)

pub named_next : (es es' : List (Name × HeldFile)) (f : HeldFile) → es' ≡ es ++ ((f.entry.name, f) ∷ []) → es ≡ by_name (values_of es) → es' ≡ by_name (values_of es')
named_next es es' f is named =
    is ∙ (ap (λ (l : List (Name × HeldFile)). l ++ ((f.entry.name, f) ∷ [])) named
    ∙ (sym (map_push (λ (g : HeldFile). (g.entry.name, g)) (values_of es) f) ∙ ap by_name (sym (values_next es es' f is))))

-- so many data blocks hold bytes that end in the last of them
counted : (n bsize stored : ℕ) → EndsIn bsize n stored → n * bsize ≤ 67108864 → (1 ≤ n) × (n < 2 ^ 32)
counted zero bsize stored ends room = let high = ends.1 in let low = ends.0 in absurd (omega arith)
counted (suc n) zero stored ends room = let high = ends.1 in let low = ends.0 in absurd (omega arith)
counted (suc n) (suc b) stored ends room = (omega arith, omega arith)

-- the tests look at the length at F alone
passes_told : (bsize : ℕ) (e : Entry) (size : ℕ) → (e.format ≡ F → size ≡ e.length) → passes bsize (record e { length = size }) ≡ passes bsize e
unfolding passes length_fits counts_fit levels_fit
passes_told bsize e size fixed = at_formats e.format e.length fixed
  where
    at_formats : (format : Format) (length : ℕ) → (format ≡ F → size ≡ length)
        → passes bsize (record e { format = format; length = size }) ≡ passes bsize (record e { format = format; length = length })
    at_formats F length same = ap (λ (n : ℕ). passes bsize (record e { format = F; length = n })) (same refl)
    at_formats V length same = refl

-- a file that was read is one that is kept
pub file_kept : (bsize total : ℕ) (e : Entry) (w : Walked) (told : RecordsTold) (f : HeldFile) → f ≡ made e w told → passes bsize e ≡ true → ReadsBack f.entry → HasSize bsize e → length w.leaves.items ≡ e.blocks
    → length w.pointers.items ≡ pointer_count (fan_of bsize e.format) e.blocks
    → AreWithin total None w.leaves.items → AreWithin total None w.pointers.items → 1 ≤ told.sizes.longest → told.sizes.longest ≤ 65535 → (e.format ≡ F → told.sizes.longest ≡ e.length) → told.sizes.stored ≤ 67108864
    → IsSized e.format told.sizes.longest e.count told.sizes.stored → EndsIn bsize (length w.leaves.items) told.sizes.stored → IsKeptFile bsize total f
file_kept bsize total e w told f is passing back size count nodes within nodes_within some short fixed stored sized ends =
    let room : length w.leaves.items * bsize ≤ 67108864 = rw count size.room in
    let n = counted (length w.leaves.items) bsize told.sizes.stored ends room in
    subst (IsKeptFile bsize total) (sym is) (record {
      entry = passes_told bsize e told.sizes.longest fixed ∙ passing;
      spells = subst (λ (g : HeldFile). ReadsBack g.entry) is back;
      count = count;
      within = λ n in'. ⊎_elim (λ (b : (6 ≤ n) × (n ≤ total)). b) (λ (no : None ≡ Some n). absurd (cc no)) (within n in');
      nodes_within = λ n in'. ⊎_elim (λ (b : (6 ≤ n) × (n ≤ total)). b) (λ (no : None ≡ Some n). absurd (cc no)) (nodes_within n in');
      room = room;
      some = some;
      short = short;
      told = refl;
      size = stored;
      sized = sized;
      shape = record { some = n.0; few = n.1; nodes = nodes ∙ ap (pointer_count (fan_of bsize e.format)) (sym count) };
      low = ends.0;
      high = ends.1;
    })
