-- The bytes of the entries of files.
use Rattle.std.proofs.Common.{◌≡◌, ℕ, suc, ◌-◌, ◌*◌, ◌<◌, ◌≤◌, List, [], ◌∷◌, ◌++◌, length, take, drop, get_or, All, Result, Ok, Err, OnOk, refl, ap, sym, ◌∙◌, arith, append_assoc, append-nil, length-append}
use Rattle.std.proofs.lemmas.List.{take_all}
use Rattle.std.proofs.lemmas.List.Elements.{All-head, All-tail}
use Rattle.cms_fields.specs.Entries.{entry_bytes}
use Rattle.cms_fields.specs.declared.entry.Entry.{Entry}
use Rattle.cms_held.specs.Written.{ReadsBack, file_entries}

pub no_entries : (files : List Entry) (into : List ℕ) → length files < 1 → into ≡ into ++ file_entries files
unfolding file_entries
no_entries [] into none = sym (append-nil into)
no_entries (e ∷ es) into none = absurd (omega arith)

joined : (old : List ℕ) (f : Entry) (fs : List Entry) → (old ++ entry_bytes f) ++ file_entries fs ≡ old ++ file_entries (f ∷ fs)
unfolding file_entries
joined old f fs = append_assoc old (entry_bytes f) (file_entries fs)

pub more_entries : {E : Type 0} (files : List Entry) (first : Entry) (old mid new : List ℕ) (r : Result (Unit {0}) E) → 1 ≤ length files → first ≡ get_or files 0 first → mid ≡ old ++ entry_bytes first
    → OnOk r (new ≡ mid ++ file_entries (take (length files - 1) (drop 1 files))) → OnOk r (new ≡ old ++ file_entries files)
more_entries files first old mid new (Err e) some is_first is_mid more = tt
more_entries [] first old mid new (Ok x) some is_first is_mid more = absurd (omega arith)
more_entries (f ∷ fs) first old mid new (Ok x) some is_first is_mid more =
    let less : suc (length fs) - 1 ≡ length fs = omega arith in
    let all : take (suc (length fs) - 1) fs ≡ fs = rw less (take_all (length fs) fs (omega arith)) in
    let is : new ≡ mid ++ file_entries fs = more ∙ ap (λ (l : List Entry). mid ++ file_entries l) all in
    is ∙ ap (λ (l : List ℕ). l ++ file_entries fs) (is_mid ∙ ap (λ (e : Entry). old ++ entry_bytes e) is_first) ∙ joined old f fs

pub length_entries : (es : List Entry) → All ReadsBack es → length (file_entries es) ≡ 64 * length es
unfolding file_entries
length_entries [] back = refl
length_entries (e ∷ es) back =
    let first = (All-head ReadsBack e es back).0 in
    let rest = length_entries es (All-tail ReadsBack e es back) in
    omega (arith, length-append (entry_bytes e) (file_entries es))
