-- A file that is put among files under their names.
use Rattle.std.proofs.Common.{◌≡◌, ℕ, zero, suc, List, [], ◌∷◌, set, position, slice_get, Option, None, Some, refl, sym, ◌∙◌, ap}
use Rattle.std.specs.Map.{values_of}
use Rattle.std.proofs.lemmas.List.{map-append}
use Rattle.indexmap.specs.IndexMap.{insert_entry, set_value_at}
use Rattle.indexmap.proofs.MapLemmas.{Found-position, absent_from_lookup, insert_entry-absent, insert_entry-first}
use Rattle.cms_names.specs.declared.name.Name.{Name}
use Rattle.cms_model.specs.Minidisks.{is_named, same_name}
use Rattle.cms_held.specs.HeldVolumes.{HeldFile, by_name, names_in}
use Rattle.cms_edf.specs.FileDrafts.{list_with}
use Rattle.cms_edf.proofs.FilesNamed.{keys_named, values_named}
use Rattle.cms_edf.proofs.NamesMet.{none_there, place_there, same_as}
use Rattle.cms_edf.proofs.PlanParts.{not_named}
use Rattle.cms_edf.proofs.Planned.{named_at}

value_set : (fs : List HeldFile) (i : ℕ) (f g : HeldFile) → slice_get fs i ≡ Some f → f.entry.name ≡ g.entry.name → set_value_at (by_name fs) i g ≡ by_name (set fs i g)
value_set [] i f g there is = absurd (cc there)
value_set (x ∷ fs) zero f g there is =
    let same : x ≡ f = cc there in
    ap (λ (n : Name). (n, g) ∷ by_name fs) (ap (λ (y : HeldFile). y.entry.name) same ∙ is)
value_set (x ∷ fs) (suc i) f g there is = ap (λ (l : List (Name × HeldFile)). (x.entry.name, x) ∷ l) (value_set fs i f g there is)

pub inserted : (fs : List HeldFile) (g : HeldFile) → insert_entry same_as (by_name fs) g.entry.name g ≡ by_name (list_with fs (position (same_name g.entry.name) (names_in fs)) g)
inserted fs g = at (position (same_name g.entry.name) (names_in fs)) refl
  where
    at : (o : Option ℕ) → position (same_name g.entry.name) (names_in fs) ≡ o → insert_entry same_as (by_name fs) g.entry.name g ≡ by_name (list_with fs o g)
    at None none =
        insert_entry-absent same_as g.entry.name g (by_name fs) (absent_from_lookup (same_as g.entry.name) (by_name fs)
        (none_there g.entry.name (by_name fs) (ap (is_named g.entry.name) (keys_named fs) ∙ not_named g.entry.name (names_in fs) none)))
        ∙ sym (map-append (λ (f : HeldFile). (f.entry.name, f)) fs (g ∷ []))
    at (Some i) there =
        let n = named_at fs g.entry.name i there in
        insert_entry-first same_as g.entry.name g (by_name fs) i
        (Found-position (same_as g.entry.name) (by_name fs) i (ap (position (same_as g.entry.name)) (keys_named fs) ∙ place_there g.entry.name (names_in fs) ∙ there)).first
        ∙ value_set fs i n.file g n.there n.named

-- the files of a map in which it was put
pub record Puts (es es' : List (Name × HeldFile)) (g : HeldFile) : Type 0 where
  pub values : values_of es' ≡ list_with (values_of es) (position (same_name g.entry.name) (names_in (values_of es))) g
  pub named : es' ≡ by_name (values_of es')

pub puts : (es es' : List (Name × HeldFile)) (g : HeldFile) → es ≡ by_name (values_of es) → es' ≡ insert_entry same_as es g.entry.name g → Puts es es' g
puts es es' g is put =
    let fs = list_with (values_of es) (position (same_name g.entry.name) (names_in (values_of es))) g in
    let e : es' ≡ by_name fs = put ∙ ap (λ (l : List (Name × HeldFile)). insert_entry same_as l g.entry.name g) is ∙ inserted (values_of es) g in
    let values = ap values_of e ∙ values_named fs in
    record { values = values; named = e ∙ ap by_name (sym values) }
