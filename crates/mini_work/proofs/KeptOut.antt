-- Files that are got into host files, of the calls that are made.
use Rattle.std.proofs.Common.{◌≡◌, ◌⊎◌, inl, inr, ◌∙◌, ℕ, Bool, true, false, ◌&&◌, if◌then◌else◌, List, [], ◌∷◌, ◌++◌, map, Option, Some, None, Result, Ok, Err, IfOk, refl, ap, sym, subst, append_assoc, append-nil}
use Rattle.std.specs.Prelude.{option_map, is_some, not, unwrap_or, IsSome}
use Rattle.std.specs.List.{concat, list_all}
use Rattle.std.specs.Option.{ForSome}
use Rattle.std.proofs.lemmas.List.{map-append}
use Rattle.std.proofs.lemmas.List.Elements.{filter-append}
use Rattle.std.proofs.lemmas.List.Folds.{concat-append, list_all-append}
use Rattle.std.proofs.lemmas.Option.{same_Some}
use Rattle.cms_journal.specs.Told.{Told}
use Rattle.cms_names.specs.declared.name.Name.{Name}
use Rattle.cms_model.specs.Minidisks.{Minidisk}
use Rattle.cms_disk.specs.Disks.{Accessed}
use Rattle.mini_forms.specs.declared.form.Form.{Form}
use Rattle.mini_host.specs.Files as files
use Rattle.mini_host.specs.Files.{Files, with_more}
use Rattle.mini_host.specs.declared.content.Draft.{Draft}
use Rattle.mini_host.specs.declared.content.HostFile.{HostFile}
use Rattle.mini_words.specs.declared.request.Get.{Get}
use Rattle.mini_work.specs.Changes.{IsTold, said_if}
use Rattle.mini_work.specs.CommandActs.{Act, Came, Continues, Cut, Kept, Said, Went, both}
use Rattle.mini_work.specs.Gets.{AreSaid, Begins, HasNoFolder, Hosts, IsBarred, IsGotAs, IsGotTo, IsJoined, IsPlaced, Keeps, OnHost, RefusesFor, WritesAll, WritesMore, files_after, folder_of, joined, joined_acts, joined_status, names_said, path_of, shown_names}
use Rattle.mini_work.specs.HostTold.{Noted, SameFiles, files_in}
use Rattle.mini_work.specs.HandedFiles.{GetsOne, IsBegun, PutsFront, shown_in}
use Rattle.mini_work.specs.Output.{name_line}
use Rattle.mini_work.specs.Stands.{Stands}
use Rattle.mini_work.specs.declared.fault.Fault.{Fault}
use Rattle.mini_work.specs.declared.handed_file.Way.TheVariants as ways
use Rattle.mini_work.specs.declared.status.Status.{Status}
use Rattle.mini_work.specs.declared.status.Status.TheVariants as status
use Rattle.mini_work.proofs.GotOut.{hosts_still}
use Rattle.mini_work.proofs.Hosted.{files_same}
use Rattle.mini_work.proofs.UnitStands.{came_kept, came_still, cut_here, stands_aside, stands_same, typed_aside}

-- ---- what is said behind a host file

said_front : (says : Bool) (line : List ℕ) (x : Act) (acts : List Act) → said_if says line (x ∷ acts) ≡ said_if says line (x ∷ []) ++ acts
said_front true line x acts = refl
said_front false line x acts = refl

said_after : (says : Bool) (line path bytes : List ℕ) (x : Option (List HostFile))
    → option_map (files_after (Kept path bytes ∷ [])) x ≡ option_map (files_after (said_if says line (Kept path bytes ∷ []))) x
unfolding files_after
said_after true line path bytes None = refl
said_after true line path bytes (Some fs) = refl
said_after false line path bytes None = refl
said_after false line path bytes (Some fs) = refl

hosts_kept : (h k : Option Files) (path bytes : List ℕ) (says : Bool) (line : List ℕ) (acts more : List Act)
    → more ≡ said_if says line (Kept path bytes ∷ acts) → files_in k ≡ option_map (files_after (Kept path bytes ∷ [])) (files_in h) → Hosts h k acts more
hosts_kept h k path bytes says line acts more is files = record {
  front = said_if says line (Kept path bytes ∷ []);
  more_is = is ∙ said_front says line (Kept path bytes) acts;
  files = files ∙ said_after says line path bytes (files_in h);
}

names_front : (says : Bool) (names : List Name) (xs acts : List Act) → names_said says names (xs ++ acts) ≡ names_said says names xs ++ acts
unfolding names_said
names_front says [] xs acts = refl
names_front true (name ∷ names) xs acts = names_front true names (Said (name_line name) ∷ xs) acts
names_front false (name ∷ names) xs acts = names_front false names xs acts

names_after : (says : Bool) (names : List Name) (xs : List Act) (fs : List HostFile) → files_after (names_said says names xs) fs ≡ files_after xs fs
unfolding names_said files_after
names_after says [] xs fs = refl
names_after true (name ∷ names) xs fs = names_after true names (Said (name_line name) ∷ xs) fs
names_after false (name ∷ names) xs fs = names_after false names xs fs

map_after : (says : Bool) (names : List Name) (xs : List Act) (x : Option (List HostFile))
    → option_map (files_after xs) x ≡ option_map (files_after (names_said says names xs)) x
map_after says names xs None = refl
map_after says names xs (Some fs) = ap (λ (l : List HostFile). Some l) (sym (names_after says names xs fs))

-- ---- a host file that is begun, written and kept

pub kept_files : (path bytes : List ℕ) (over : Bool) (h k l n : Option Files) → k ≡ option_map (files.begun path over) h
    → l ≡ option_map (files.written bytes) k → n ≡ option_map files.kept l
    → files_in n ≡ option_map (files_after (Kept path bytes ∷ [])) (files_in h)
unfolding files_after
kept_files path bytes over None k l n p q r =
    ap files_in (r ∙ ap (option_map files.kept) (q ∙ ap (option_map (files.written bytes)) p))
kept_files path bytes over (Some h) k l n p q r =
    ap files_in (r ∙ ap (option_map files.kept) (q ∙ ap (option_map (files.written bytes)) p))

-- ---- each into a host file of its own

-- nothing was told
pub got_still : (get : Get) (path : List ℕ) (name : Name) (old new : Told) (d : Accessed) (h k : Option Files)
    → ((m : Minidisk) → Stands old d m → new ≡ old) → SameFiles h k → Continues (OnHost h k (IsGotAs get path name)) old d new d (Ok status.Refused)
got_still get path name old new d h k is same = λ start first m acts came.
    (m, acts, ((refl, refl), hosts_still h k acts same), came_still start first m acts old new d d came (is m came.stands) refl)

pub got_cut : {A : Type 0} (P : A → Minidisk → List Act → Minidisk → List Act → Type 0) (old new : Told) (d : Accessed) (f : Fault)
    → ((m : Minidisk) → Stands old d m → new ≡ old) → Continues P old d new d (Err f)
got_cut P old new d f is = λ start first m acts came.
    (acts, subst (λ (t : Told). Cut start first acts t) (sym (is m came.stands)) (cut_here start first m acts old d came))

pub front_same : (old new : Told) (text : Option (List ℕ)) → PutsFront ways.File old new text → new ≡ old
front_same old new None same = same
front_same old new (Some bytes) same = same

-- it was written whole, or nothing of it and that was said
pub record Written (old new : Told) (h k : Option Files) (text : Option (List ℕ)) : Type 0 where
  pub bytes : List ℕ
  pub text_is : text ≡ Some bytes
  pub told : new ≡ old
  pub wrote : k ≡ option_map (files.written bytes) h

pub written_done : (old new : Told) (h k : Option Files) (text : Option (List ℕ)) → GetsOne ways.File old new h k text (Ok status.Done)
    → Written old new h k text
written_done old new h k text g = record { bytes = g.0; text_is = g.1; told = g.2.0; wrote = g.2.1 }

pub got_same : (old new : Told) (h k : Option Files) (text : Option (List ℕ)) (r : Result Status Fault) → GetsOne ways.File old new h k text r → new ≡ old
got_same old new h k text (Ok status.Done) g = g.2.0
got_same old new h k text (Ok status.Refused) g = g.1
got_same old new h k text (Ok status.Failed) g = absurd g
got_same old new h k text (Err why) g = front_same old new text g

-- where it isn't done it is refused
pub refused_then : (old new : Told) (h k : Option Files) (text : Option (List ℕ)) (s : Status) → GetsOne ways.File old new h k text (Ok s)
    → (s ≡ status.Done → ⊥) → (s ≡ status.Refused) × (text ≡ None)
refused_then old new h k text status.Done g other = absurd (other refl)
refused_then old new h k text status.Refused g other = (refl, g.0)
refused_then old new h k text status.Failed g other = absurd g

pub got_on : (get : Get) (path : List ℕ) (name : Name) (old mid new : Told) (d : Accessed) (h k : Option Files) (r : Result Status Fault)
    → ((m : Minidisk) → Stands old d m → (bytes : List ℕ) × (shown_in get.form m name ≡ Some bytes) × (mid ≡ old)
    × (files_in k ≡ option_map (files_after (Kept path bytes ∷ [])) (files_in h)))
    → Continues (IsTold get.says (name_line name)) mid d new d r → Continues (OnHost h k (IsGotAs get path name)) old d new d r
got_on get path name old mid new d h k (Ok s) gets told = λ start first m acts came.
    let g = gets m came.stands in
    let kept = came_kept start first m acts mid d path g.0 (subst (λ (t : Told). Came start first acts t d m) (sym g.2) came) in
    let l = told start first m (Kept path g.0 ∷ acts) kept in (
      l.0,
      l.1,
      (
        subst (λ (x : Status). IsGotAs get path name x m acts l.0 l.1) (sym l.2.0) (g.0, g.1, l.2.1, l.2.2),
        hosts_kept h k path g.0 get.says (name_line name) acts l.1 l.2.2 g.3,
      ),
      l.3,
    )
got_on get path name old mid new d h k (Err why) gets told = λ start first m acts came.
    let g = gets m came.stands in
    let kept = came_kept start first m acts mid d path g.0 (subst (λ (t : Told). Came start first acts t d m) (sym g.2) came) in
    told start first m (Kept path g.0 ∷ acts) kept

-- nothing can be shown of it
pub got_refused : (get : Get) (path : List ℕ) (name : Name) (old new : Told) (d : Accessed) (h a b l : Option Files) (s : Status)
    → ((m : Minidisk) → Stands old d m → GetsOne ways.File old new a b (shown_in get.form m name) (Ok s)) → (s ≡ status.Done → ⊥) → SameFiles h l
    → Continues (OnHost h l (IsGotAs get path name)) old d new d (Ok s)
got_refused get path name old new d h a b l s gets other same = λ start first m acts came.
    let g = gets m came.stands in
    let r = refused_then old new a b (shown_in get.form m name) s g other in (
      m,
      acts,
      (subst (λ (x : Status). IsGotAs get path name x m acts m acts) (sym r.0) (refl, refl), hosts_still h l acts same),
      came_still start first m acts old new d d came (got_same old new a b (shown_in get.form m name) (Ok s) g) refl,
    )

-- why it was refused
pub refuses_err : (h : Option Files) (get : Get) (path : List ℕ) (text : Option (List ℕ)) (why : Fault) (r : Result Status Fault) → r ≡ Err why
    → RefusesFor h get path text r
refuses_err h get path text why r is = subst (λ (x : Result Status Fault). RefusesFor h get path text x) (sym is) tt

-- it wasn't refused
pub refuses_never : (h : Option Files) (get : Get) (path : List ℕ) (text : Option (List ℕ)) (r : Result Status Fault) → IfOk r (λ s. s ≡ status.Done)
    → RefusesFor h get path text r
refuses_never h get path text (Ok s) is = subst (λ (x : Status). RefusesFor h get path text (Ok x)) (sym is) tt
refuses_never h get path text (Err why) is = tt

pub refuses_none : (h : Option Files) (get : Get) (path : List ℕ) (old new : Told) (a b : Option Files) (text : Option (List ℕ)) (s : Status)
    → GetsOne ways.File old new a b text (Ok s) → (s ≡ status.Done → ⊥) → RefusesFor h get path text (Ok s)
refuses_none h get path old new a b text s g other =
    let r = refused_then old new a b text s g other in
    subst (λ (x : Status). RefusesFor h get path text (Ok x)) (sym r.0) (inl r.1)

-- the host doesn't tell its files
untold : (h l : Option Files) → ForSome l (λ f. ⊥) → SameFiles h l → h ≡ None
untold None l never same = refl
untold (Some f) None never same = absurd (let e : None ≡ Some (f.files, f.folders) = same in cc e)
untold (Some f) (Some g) never same = absurd (never g refl)

untold_barred : (h : Option Files) (get : Get) (path : List ℕ) → h ≡ None → IsBarred h get path
untold_barred None get path is = λ f at. absurd (let e : Some f ≡ None = sym at in cc e)
untold_barred (Some h) get path is = absurd (cc is)

pub never_barred : (h l : Option Files) (get : Get) (path : List ℕ) → ForSome l (λ f. ⊥) → SameFiles h l → IsBarred h get path
never_barred h l get path never same = untold_barred h get path (untold h l never same)

-- its path by its name
pub got_path : (get : Get) (folder path : List ℕ) (name : Name) (old new : Told) (d : Accessed) (h k : Option Files) (r : Result Status Fault)
    → path ≡ path_of folder name → Continues (OnHost h k (IsGotAs get path name)) old d new d r
    → Continues (OnHost h k (IsGotTo get folder name)) old d new d r
got_path get folder path name old new d h k r is goes = subst (λ (p : List ℕ). Continues (OnHost h k (IsGotAs get p name)) old d new d r) is goes

-- ---- joined, into one host file

abbrev can : Form → Minidisk → Name → Bool
can form m name = is_some (shown_in form m name)

abbrev text : Form → Minidisk → Name → List ℕ
text form m name = unwrap_or (shown_in form m name) []

joined_more : (form : Form) (m : Minidisk) (xs : List Name) (x : Name) → joined form m (xs ++ x ∷ []) ≡ joined form m xs ++ text form m x
joined_more form m xs x =
    ap concat (map-append (text form m) xs (x ∷ [])) ∙ concat-append (map (text form m) xs) (text form m x ∷ [])
    ∙ ap (λ (l : List ℕ). joined form m xs ++ l) (append-nil (text form m x))

abbrev status_if : Bool → Status
status_if b = if b then status.Done else status.Refused

both_if : (a b : Bool) → status_if (a && (b && true)) ≡ both (status_if a) (status_if b)
unfolding both
both_if true true = refl
both_if true false = refl
both_if false true = refl
both_if false false = refl

status_more : (form : Form) (m : Minidisk) (xs : List Name) (x : Name)
    → joined_status form m (xs ++ x ∷ []) ≡ both (joined_status form m xs) (status_if (can form m x))
status_more form m xs x =
    ap status_if (list_all-append (can form m) xs (x ∷ [])) ∙ both_if (list_all (can form m) xs) (can form m x)

more_none : (d : Draft) → with_more [] d ≡ d
more_none d = ap (λ (c : List ℕ). record { file = record { name = d.file.name; content = c }; over = d.over }) (append-nil d.file.content)

writes_none : (h : Option Files) → WritesMore h h []
writes_none h = λ f at draft is. (f, at, is ∙ ap (λ (d : Draft). Some d) (sym (more_none draft)), refl, refl)

writes_then : (h k l : Option Files) (x y : List ℕ) → WritesMore h k x → l ≡ option_map (files.written y) k → WritesMore h l (x ++ y)
writes_then h k l x y p q = λ f at draft is.
    let a = p f at draft is in (
      files.written y a.0,
      q ∙ ap (option_map (files.written y)) a.1,
      ap (option_map (with_more y)) a.2
          ∙ ap (λ (c : List ℕ). Some (record { file = record { name = draft.file.name; content = c }; over = draft.over })) (append_assoc draft.file.content x y),
      a.3,
      a.4,
    )

writes_noted : (h k l : Option Files) (x : List ℕ) → WritesMore h k x → Noted k l → WritesMore h l x
writes_noted h k l x p q = λ f at draft is.
    let a = p f at draft is in
    (files.noted q.0 a.0, q.1 ∙ ap (option_map (files.noted q.0)) a.1, a.2, a.3, a.4)

pub writes_first : (form : Form) (m : Minidisk) (h : Option Files) (before : List Name) → WritesAll form m [] h h before before status.Done
writes_first form m h before = record { written = writes_none h; gathered_is = sym (append-nil before); status_is = refl }

both_done : (t : Status) → both t status.Done ≡ t
unfolding both
both_done status.Done = refl
both_done status.Refused = refl
both_done status.Failed = refl

-- one more that is shown
pub writes_done : (form : Form) (m : Minidisk) (xs : List Name) (x : Name) (old new : Told) (h k l : Option Files) (before some more : List Name) (s : Status)
    → WritesAll form m xs h k before some s → Written old new k l (shown_in form m x) → more ≡ some ++ x ∷ []
    → WritesAll form m (xs ++ x ∷ []) h l before more s
writes_done form m xs x old new h k l before some more s p w is =
    let yes : can form m x ≡ true = ap is_some w.text_is in
    let here : text form m x ≡ w.bytes = ap (λ (o : Option (List ℕ)). unwrap_or o []) w.text_is in
    record {
      written = subst (λ (b : List ℕ). WritesMore h l b) (ap (λ (b : List ℕ). joined form m xs ++ b) (sym here) ∙ sym (joined_more form m xs x))
          (writes_then h k l (joined form m xs) w.bytes p.written w.wrote);
      gathered_is = is ∙ ap (λ (ns : List Name). ns ++ x ∷ []) p.gathered_is ∙ append_assoc before (shown_names form m xs) (x ∷ [])
          ∙ ap (λ (ns : List Name). before ++ ns) (sym (names_more yes));
      status_is = p.status_is ∙ sym (status_more form m xs x ∙ ap (λ (b : Bool). both (joined_status form m xs) (status_if b)) yes ∙ both_done (joined_status form m xs));
    }
  where
    names_more : can form m x ≡ true → shown_names form m (xs ++ x ∷ []) ≡ shown_names form m xs ++ x ∷ []
    names_more seen = filter-append (can form m) xs (x ∷ []) ∙ ap (λ (b : Bool). shown_names form m xs ++ (if b then x ∷ [] else [])) seen

-- one more that isn't
pub writes_refused : (form : Form) (m : Minidisk) (xs : List Name) (x : Name) (h k l : Option Files) (before some : List Name) (s t : Status)
    → WritesAll form m xs h k before some s → shown_in form m x ≡ None → Noted k l → t ≡ both s status.Refused
    → WritesAll form m (xs ++ x ∷ []) h l before some t
writes_refused form m xs x h k l before some s t p none noted is =
    let no : can form m x ≡ false = ap is_some none in
    let here : text form m x ≡ [] = ap (λ (o : Option (List ℕ)). unwrap_or o []) none in
    record {
      written = subst (λ (b : List ℕ). WritesMore h l b)
          (sym (append-nil (joined form m xs)) ∙ ap (λ (b : List ℕ). joined form m xs ++ b) (sym here) ∙ sym (joined_more form m xs x))
          (writes_noted h k l (joined form m xs) p.written noted);
      gathered_is = p.gathered_is ∙ ap (λ (ns : List Name). before ++ ns) (sym (names_less no));
      status_is = is ∙ ap (λ (u : Status). both u status.Refused) p.status_is
          ∙ sym (status_more form m xs x ∙ ap (λ (b : Bool). both (joined_status form m xs) (status_if b)) no);
    }
  where
    names_less : can form m x ≡ false → shown_names form m (xs ++ x ∷ []) ≡ shown_names form m xs
    names_less unseen = filter-append (can form m) xs (x ∷ []) ∙ ap (λ (b : Bool). shown_names form m xs ++ (if b then x ∷ [] else [])) unseen ∙ append-nil (shown_names form m xs)

pub writes_both : (form : Form) (m : Minidisk) (xs : List Name) (x : Name) (old new : Told) (h k l : Option Files) (before some more : List Name) (s : Status)
    → WritesAll form m xs h k before some s → Written old new k l (shown_in form m x) → more ≡ some ++ x ∷ []
    → WritesAll form m (xs ++ x ∷ []) h l before more (both s status.Done)
writes_both form m xs x old new h k l before some more s p w is =
    subst (λ (u : Status). WritesAll form m (xs ++ x ∷ []) h l before more u) (sym (both_done s)) (writes_done form m xs x old new h k l before some more s p w is)

pub writes_other : (form : Form) (m : Minidisk) (xs : List Name) (x : Name) (old new : Told) (h k l : Option Files) (before some : List Name) (t s : Status)
    → WritesAll form m xs h k before some t → GetsOne ways.File old new k l (shown_in form m x) (Ok s) → (s ≡ status.Done → ⊥)
    → WritesAll form m (xs ++ x ∷ []) h l before some (both t s)
writes_other form m xs x old new h k l before some t status.Done p g other = absurd (other refl)
writes_other form m xs x old new h k l before some t status.Refused p g other =
    writes_refused form m xs x h k l before some t (both t status.Refused) p g.0 g.2 refl
writes_other form m xs x old new h k l before some t status.Failed p g other = absurd g

-- the host's files behind it
joined_files : (file bytes : List ℕ) (over : Bool) (h k l n : Option Files) → k ≡ option_map (files.begun file over) h → WritesMore k l bytes → SameFiles k l
    → n ≡ option_map files.kept l → files_in n ≡ option_map (files_after (Kept file bytes ∷ [])) (files_in h)
unfolding files_after
joined_files file bytes over None k l n p w same r =
    let none : files_in l ≡ None = files_same k l same ∙ ap files_in p in
    none_kept l n none r
  where
    none_kept : (l n : Option Files) → files_in l ≡ None → n ≡ option_map files.kept l → files_in n ≡ None
    none_kept None n is r = ap files_in r
    none_kept (Some g) n is r = absurd (cc is)
joined_files file bytes over (Some h) k l n p w same r =
    let a = w (files.begun file over h) p (record { file = record { name = file; content = [] }; over = over }) refl in
    ap files_in (r ∙ ap (option_map files.kept) a.1) ∙ named_is a.0 a.2 a.3
  where
    named_is : (g : Files) → g.draft ≡ Some (with_more bytes (record { file = record { name = file; content = [] }; over = over })) → g.files ≡ h.files
        → Some (files.kept g).files ≡ Some (h.files ++ record { name = file; content = bytes } ∷ [])
    named_is g is same = ap (λ (x : Option Draft). Some (files.named x g).files) is ∙ ap (λ (fs : List HostFile). Some (fs ++ record { name = file; content = bytes } ∷ [])) same

-- none of them is shown
pub joined_none : (get : Get) (file : List ℕ) (names : List Name) (old mid : Told) (d : Accessed) (h k before : Option Files) (gathered : List Name) (s : Status)
    → ((m : Minidisk) → Stands old d m → (mid ≡ old) × WritesAll get.form m names before k [] gathered s) → gathered ≡ [] → (l : Option Files) → SameFiles h l
    → Continues (OnHost h l (IsJoined h get file names)) old d mid d (Ok s)
joined_none get file names old mid d h k before gathered s writes none l same = λ start first m acts came.
    let w = writes m came.stands in (
      m,
      acts,
      (
        inr (
          w.1.status_is,
          refl,
          subst (λ (ns : List Name). acts ≡ joined_acts file get.says (joined get.form m names) ns acts) (sym none ∙ w.1.gathered_is) refl,
        ),
        hosts_still h l acts same,
      ),
      came_still start first m acts old mid d d came w.0 refl,
    )

-- some are
acts_some : (file : List ℕ) (says : Bool) (bytes : List ℕ) (names : List Name) (acts : List Act) → (names ≡ [] → ⊥)
    → names_said says names (Kept file bytes ∷ acts) ≡ joined_acts file says bytes names acts
acts_some file says bytes [] acts some = absurd (some refl)
acts_some file says bytes (name ∷ names) acts some = refl

pub joined_some : (get : Get) (file : List ℕ) (names : List Name) (old mid new : Told) (d : Accessed) (h g k l n : Option Files)
    (gathered : List Name) (s x : Status) → ((m : Minidisk) → Stands old d m → (mid ≡ old) × WritesAll get.form m names k l [] gathered s)
    → (gathered ≡ [] → ⊥) → SameFiles h g → k ≡ option_map (files.begun file get.replaces) g → SameFiles k l → n ≡ option_map files.kept l
    → Continues (AreSaid get.says gathered) mid d new d (Ok x) → Continues (OnHost h n (IsJoined h get file names)) old d new d (Ok s)
joined_some get file names old mid new d h g k l n gathered s x writes some same begun kept_same kept said = λ start first m acts came.
    let w = writes m came.stands in
    let bytes = joined get.form m names in
    let there = came_kept start first m acts mid d file bytes (subst (λ (t : Told). Came start first acts t d m) (sym w.0) came) in
    let t = said start first m (Kept file bytes ∷ acts) there in (
      t.0,
      t.1,
      (
        inr (
          w.1.status_is,
          t.2.1,
          subst (λ (ns : List Name). t.1 ≡ joined_acts file get.says bytes ns acts) w.1.gathered_is (t.2.2 ∙ acts_some file get.says bytes gathered acts some),
        ),
        record {
          front = names_said get.says gathered (Kept file bytes ∷ []);
          more_is = t.2.2 ∙ names_front get.says gathered (Kept file bytes ∷ []) acts;
          files = joined_files file bytes get.replaces g k l n begun w.1.written kept_same kept
              ∙ ap (option_map (files_after (Kept file bytes ∷ []))) (files_same h g same)
              ∙ map_after get.says gathered (Kept file bytes ∷ []) (files_in h);
        },
      ),
      t.3,
    )

pub joined_cut : {A : Type 0} (P : A → Minidisk → List Act → Minidisk → List Act → Type 0) (get : Get) (file : List ℕ) (names : List Name)
    (old mid new : Told) (d : Accessed) (k l : Option Files) (gathered : List Name) (s : Status) (why f : Fault)
    → ((m : Minidisk) → Stands old d m → (mid ≡ old) × WritesAll get.form m names k l [] gathered s)
    → Continues (AreSaid get.says gathered) mid d new d (Err why) → Continues P old d new d (Err f)
joined_cut P get file names old mid new d k l gathered s why f writes said = λ start first m acts came.
    let w = writes m came.stands in
    said start first m acts (subst (λ (t : Told). Came start first acts t d m) (sym w.0) came)

-- the host file may not be begun
pub joined_barred : (get : Get) (file : List ℕ) (names : List Name) (told : Told) (d : Accessed) (h k : Option Files)
    → HasNoFolder h (folder_of file) ⊎ IsBarred h get file → SameFiles h k → Continues (OnHost h k (IsJoined h get file names)) told d told d (Ok status.Refused)
joined_barred get file names told d h k why same = λ start first m acts came.
    (m, acts, (inl (refl, why, (refl, refl)), hosts_still h k acts same), came)

-- it was begun, and may not be kept
pub joined_lost : (get : Get) (file : List ℕ) (names : List Name) (old mid : Told) (d : Accessed) (h k : Option Files)
    → IsBarred h get file → SameFiles h k → ((m : Minidisk) → Stands old d m → mid ≡ old)
    → Continues (OnHost h k (IsJoined h get file names)) old d mid d (Ok status.Refused)
joined_lost get file names old mid d h k why same is = λ start first m acts came. (
  m,
  acts,
  (inl (refl, inr why, (refl, refl)), hosts_still h k acts same),
  came_still start first m acts old mid d d came (is m came.stands) refl,
)

-- ---- names that are said

pub names_none : (says : Bool) (told : Told) (d : Accessed) → Continues (AreSaid says []) told d told d (Ok status.Done)
unfolding names_said
names_none says told d = λ start first m acts came. (m, acts, (refl, refl, refl), came)

said_last : (says : Bool) (xs : List Name) (x : Name) (acts : List Act)
    → said_if says (name_line x) (names_said says xs acts) ≡ names_said says (xs ++ x ∷ []) acts
unfolding names_said
said_last says [] x acts = refl
said_last says (y ∷ ys) x acts = said_last says ys x (said_if says (name_line y) acts)

-- one name more
pub names_more : (says : Bool) (xs : List Name) (x : Name) (old mid new : Told) (d : Accessed) (s t : Status) → Continues (AreSaid says xs) old d mid d (Ok s)
    → Continues (IsTold says (name_line x)) mid d new d (Ok t) → Continues (AreSaid says (xs ++ x ∷ [])) old d new d (Ok status.Done)
names_more says xs x old mid new d s t p q = λ start first m acts came.
    let a = p start first m acts came in
    let b = q start first a.0 a.1 a.3 in (
      b.0,
      b.1,
      (refl, b.2.1 ∙ a.2.1, b.2.2 ∙ ap (said_if says (name_line x)) a.2.2 ∙ said_last says xs x acts),
      b.3,
    )

-- ---- so it is by the calls

never_there : (h k l : Option Files) → ForSome h (λ f. ⊥) → k ≡ option_map files.kept h → SameFiles k l → SameFiles h l
never_there None k l never is same = subst (λ (x : Option Files). SameFiles x l) is same
never_there (Some f) k l never is same = absurd (never f refl)

pub never_kept : (h k l : Option Files) (r : Result Bool Fault) → IfOk r (λ b. b ≡ false) → ForSome h (λ f. ⊥) → k ≡ option_map files.kept h → SameFiles k l
    → IfOk r (Keeps h l)
never_kept h k l (Ok b) isnt never is same = subst (λ (x : Bool). Keeps h l x) (sym isnt) (never, never_there h k l never is same)
never_kept h k l (Err why) isnt never is same = tt

pub never_begun : (h k : Option Files) (get : Get) (file : List ℕ) (r : Result Bool Fault) → IfOk r (λ b. b ≡ false) → IsBarred h get file → SameFiles h k
    → IfOk r (Begins h k get file)
never_begun h k get file (Ok b) isnt barred same = subst (λ (x : Bool). Begins h k get file x) (sym isnt) (barred, same)
never_begun h k get file (Err why) isnt barred same = tt

begun_draft : (file : List ℕ) (over : Bool) (h k : Option Files) → k ≡ option_map (files.begun file over) h → IsBegun k
begun_draft file over None k is = λ f at. absurd (let e : Some f ≡ None = sym at ∙ is in cc e)
begun_draft file over (Some h) k is = λ f at.
    subst (λ (x : Files). IsSome x.draft) (sym (same_Some f (files.begun file over h) (sym at ∙ is))) refl

pub begun_is : (h k : Option Files) (get : Get) (file : List ℕ) → Begins h k get file true → IsBegun k
begun_is h k get file is = begun_draft file get.replaces h k is

pub no_folder : (h : Option Files) (folder : List ℕ) (r : Result Bool Fault) → HasNoFolder h folder → IfOk r (λ there. there ≡ false → HasNoFolder h folder)
no_folder h folder (Ok b) none = λ is. none
no_folder h folder (Err why) none = tt

pub files_known : (h k : Option Files) (r : Result Bool Fault) → SameFiles h k → IfOk r (λ b. SameFiles h k)
files_known h k (Ok b) same = same
files_known h k (Err why) same = tt

pub taken_so : (b : Bool) → false ≡ not b → b ≡ true
taken_so true is = refl
taken_so false is = is

-- ---- the minidisk stands behind it

pub gets_stands : (old new : Told) (d : Accessed) (m : Minidisk) (h k : Option Files) (text : Option (List ℕ)) (s : Status) → Stands old d m
    → GetsOne ways.Output old new h k text (Ok s) → Stands new d m
gets_stands old new d m h k text status.Done st g =
    let typed = g.2.0 in stands_aside old new d m typed.events st typed.told (typed_aside d.volume.unit typed.events typed.only)
gets_stands old new d m h k text status.Refused st g = stands_same old new d d m st g.1 refl
gets_stands old new d m h k text status.Failed st g = absurd g

placed_same : (says : Bool) (path line : List ℕ) (text : Option (List ℕ)) (s : Status) (m after : Minidisk) (acts more : List Act)
    → IsPlaced says path line text s m acts after more → after ≡ m
placed_same says path line text status.Done m after acts more p = p.2
placed_same says path line text status.Refused m after acts more p = p.0
placed_same says path line text status.Failed m after acts more p = absurd p

pub placed_stands : (get : Get) (path : List ℕ) (name : Name) (old new : Told) (d : Accessed) (m : Minidisk) (h k : Option Files) (s : Status) → Stands old d m
    → Continues (OnHost h k (IsGotAs get path name)) old d new d (Ok s) → Stands new d m
unfolding Went
placed_stands get path name old new d m h k s st goes =
    let l = goes old m m [] (record { went = (refl, refl); stands = st }) in
    subst (λ (x : Minidisk). Stands new d x) (placed_same get.says path (name_line name) (shown_in get.form m name) s m l.0 [] l.1 l.2.0) l.3.stands
