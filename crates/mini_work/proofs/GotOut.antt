-- Files that are got, of the calls that are made.
use Rattle.std.proofs.Common.{◌≡◌, ◌⊎◌, inl, inr, ◌∙◌, ℕ, ◌+◌, ◌≤◌, true, false, List, [], ◌∷◌, ◌++◌, length, take, slice_get, Option, Some, None, Result, Ok, Err, IfOk, OnOk, refl, ap, sym, subst, append_assoc}
use Rattle.std.specs.Prelude.{IsSome, option_map}
use Rattle.std.specs.List.{list_any}
use Rattle.std.specs.Str.{bytes_eq}
use Rattle.std.proofs.lemmas.Option.{same_Some}
use Rattle.cms_journal.specs.Told.{Told}
use Rattle.cms_names.specs.declared.name.Name.{Name}
use Rattle.cms_model.specs.Minidisks.{Minidisk}
use Rattle.cms_disk.specs.Disks.{Accessed}
use Rattle.mini_forms.specs.declared.form.Form.{Form}
use Rattle.mini_host.specs.Files as files
use Rattle.mini_host.specs.Files.{Files, is_folder, is_taken}
use Rattle.mini_host.specs.declared.content.HostFile.{HostFile}
use Rattle.mini_words.specs.declared.request.Get.{Get}
use Rattle.mini_words.specs.declared.request.Target.{Target}
use Rattle.mini_words.specs.declared.request.Target.TheVariants as targets
use Rattle.cms_held.specs.HeldVolumes.{names_in}
use Rattle.cms_listfile.proofs.Procedures.{take_all as take_past}
use Rattle.mini_work.specs.ChosenFiles.{chosen, idle_status}
use Rattle.mini_work.specs.CommandActs.{Act, Asked, Came, Continues, Cut, Denied, Did, Goes, Kept, Said, both, none, one}
use Rattle.mini_work.specs.Gets.{HasNoFolder, Hosts, IsBarred, IsGetting, IsGotBy, IsGotEach, IsGotTo, IsHanded, IsJoined, IsTyped, OnHost, files_after, folder_of}
use Rattle.mini_work.specs.HostTold.{Noted, SameFiles, files_in}
use Rattle.mini_work.specs.HandedFiles.{GetsOne, Hands, IsBegun, PutsFront, shown_in}
use Rattle.mini_work.specs.Stands.{Stands}
use Rattle.mini_work.specs.Commands.{names_of}
use Rattle.mini_work.specs.declared.fault.Fault.{Fault}
use Rattle.mini_work.specs.declared.handed_file.Way.{Way}
use Rattle.mini_work.specs.declared.handed_file.Way.TheVariants as ways
use Rattle.mini_work.specs.declared.status.Status.{Status}
use Rattle.mini_work.specs.declared.status.Status.TheVariants as status
use Rattle.mini_work.proofs.HandedOut.{front_none}
use Rattle.mini_work.proofs.Hosted.{files_of, files_same, folders_same, same_noted}
use Rattle.mini_work.proofs.Listed.{take_more}
use Rattle.mini_work.proofs.Worked.{names_told}
use Rattle.mini_work.proofs.UnitStands.{came_said, came_still, cut_here, cut_typing}

-- ---- a file

-- what holds of each answer
pub on_ok_said : {A P : Type 0} (r : Result A Fault) → P → OnOk r P
on_ok_said (Ok x) p = p
on_ok_said (Err why) p = tt

-- a host file that is begun still is, when a note was said
pub begun_noted : (old new : Option Files) → Noted old new → IsBegun old → IsBegun new
begun_noted None new noted begun = λ f is. absurd (let e : None ≡ Some f = sym noted.1 ∙ is in cc e)
begun_noted (Some h) new noted begun = λ f is.
    subst (λ (g : Files). IsSome g.draft) (same_Some (files.noted noted.0 h) f (sym noted.1 ∙ is)) (begun h refl)

pub gets_done : (way : Way) (old new : Told) (h k : Option Files) (text : Option (List ℕ)) → Hands way old new h k text (Ok true)
    → GetsOne way old new h k text (Ok status.Done)
gets_done way old new h k None hands = absurd hands
gets_done way old new h k (Some bytes) hands = (bytes, refl, hands)

-- it was refused since nothing is shown of it
pub gets_refused : (way : Way) (told : Told) (h k : Option Files) (text : Option (List ℕ)) (r : Result Status Fault) → IfOk r (λ s. s ≡ status.Refused)
    → OnOk r (Noted h k) → text ≡ None → GetsOne way told told h k text r
gets_refused way told h k text (Ok s) is noted absent =
    subst (λ (x : Status). GetsOne way told told h k text (Ok x)) (sym is) (absent, refl, noted)
gets_refused way told h k text (Err why) is noted absent = front_none way told told text refl

pub hands_nothing : (way : Way) (old new : Told) (h k : Option Files) (text : Option (List ℕ)) → Hands way old new h k text (Ok false)
    → (text ≡ None) × (new ≡ old) × (k ≡ h)
hands_nothing way old new h k None hands = (refl, hands.0, hands.1)
hands_nothing way old new h k (Some bytes) hands = absurd hands

pub gets_nothing : (way : Way) (old new : Told) (h mid k : Option Files) (text : Option (List ℕ)) (r : Result Status Fault)
    → Hands way old new h mid text (Ok false) → IfOk r (λ s. s ≡ status.Refused) → OnOk r (Noted mid k) → GetsOne way old new h k text r
gets_nothing way old new h mid k text r hands is noted =
    let n = hands_nothing way old new h mid text hands in
    subst (λ (t : Told). GetsOne way old t h k text r) (sym n.1)
    (gets_refused way old h k text r is (subst (λ (x : Option Files). OnOk r (Noted x k)) n.2 noted) n.0)

-- ---- the host's files

after_both : (a b : List Act) (fs : List HostFile) → files_after (a ++ b) fs ≡ files_after a (files_after b fs)
unfolding files_after
after_both [] b fs = refl
after_both (Kept name bytes ∷ a) b fs = ap (λ (l : List HostFile). l ++ record { name = name; content = bytes } ∷ []) (after_both a b fs)
after_both (Did change stamp ∷ a) b fs = after_both a b fs
after_both (Denied change ∷ a) b fs = after_both a b fs
after_both (Said bytes ∷ a) b fs = after_both a b fs
after_both (Asked moment ∷ a) b fs = after_both a b fs

map_both : (a b : List Act) (x : Option (List HostFile)) → option_map (files_after (a ++ b)) x ≡ option_map (files_after a) (option_map (files_after b) x)
map_both a b None = refl
map_both a b (Some fs) = ap (λ (l : List HostFile). Some l) (after_both a b fs)

map_none : (x : Option (List HostFile)) → x ≡ option_map (files_after []) x
unfolding files_after
map_none None = refl
map_none (Some fs) = refl

map_said : (bytes : List ℕ) (x : Option (List HostFile)) → x ≡ option_map (files_after (Said bytes ∷ [])) x
unfolding files_after
map_said bytes None = refl
map_said bytes (Some fs) = refl

pub hosts_still : (h k : Option Files) (acts : List Act) → SameFiles h k → Hosts h k acts acts
hosts_still h k acts same = record { front = []; more_is = refl; files = files_same h k same ∙ map_none (files_in h) }

pub hosts_said : (h k : Option Files) (bytes : List ℕ) (acts : List Act) → SameFiles h k → Hosts h k acts (Said bytes ∷ acts)
hosts_said h k bytes acts same = record { front = Said bytes ∷ []; more_is = refl; files = files_same h k same ∙ map_said bytes (files_in h) }

pub hosts_then : (h k l : Option Files) (acts some more : List Act) → Hosts h k acts some → Hosts k l some more → Hosts h l acts more
hosts_then h k l acts some more p q = record {
  front = q.front ++ p.front;
  more_is = q.more_is ∙ ap (λ (x : List Act). q.front ++ x) p.more_is ∙ sym (append_assoc q.front p.front acts);
  files = q.files ∙ ap (option_map (files_after q.front)) p.files ∙ sym (map_both q.front p.front (files_in h));
}

-- ---- parts of a command that leave host files behind

-- one more of several
pub host_more : {A : Type 0} (P : A → Status → Minidisk → List Act → Minidisk → List Act → Type 0) (xs : List A) (n : ℕ) (x : A) (s t u : Status)
    (h k l : Option Files) (old mid new : Told) (d e f : Accessed) → slice_get xs n ≡ Some x → Continues (OnHost h k (Goes P (take n xs))) old d mid e (Ok s)
    → Continues (OnHost k l (P x)) mid e new f (Ok t) → u ≡ both s t → Continues (OnHost h l (Goes P (take (n + 1) xs))) old d new f (Ok u)
host_more {A} P xs n x s t u h k l old mid new d e f at p q is = λ start first m acts came.
    let a = p start first m acts came in
    let b = q start first a.0 a.1 a.3 in (
      b.0,
      b.1,
      (
        subst (λ (v : Status). Goes P (take (n + 1) xs) v m acts b.0 b.1) (sym is)
            (subst (λ (ys : List A). Goes P ys (both s t) m acts b.0 b.1) (sym (take_more xs n x at))
            (one (take n xs) x s t m a.0 b.0 acts a.1 b.1 a.2.0 b.2.0)),
        hosts_then h k l acts a.1 b.1 a.2.1 b.2.1,
      ),
      b.3,
    )

-- ---- to standard output

pub handed_on : (form : Form) (name : Name) (old new : Told) (d : Accessed) (h k : Option Files) (r : Result Status Fault)
    → ((m : Minidisk) → Stands old d m → GetsOne ways.Output old new h k (shown_in form m name) r)
    → Continues (OnHost h k (IsHanded form name)) old d new d r
handed_on form name old new d h k (Ok status.Done) gets = λ start first m acts came.
    let g = gets m came.stands in (
      m,
      Said g.0 ∷ acts,
      (
        subst (λ (x : Option (List ℕ)). IsTyped x status.Done m acts m (Said g.0 ∷ acts)) (sym g.1) (refl, (refl, refl)),
        hosts_said h k g.0 acts (ap (λ (x : Option Files). option_map (λ (f : Files). (f.files, f.folders)) x) g.2.1),
      ),
      came_said start first m acts old new d g.0 came g.2.0,
    )
handed_on form name old new d h k (Ok status.Refused) gets = λ start first m acts came.
    let g = gets m came.stands in (
      m,
      acts,
      (subst (λ (x : Option (List ℕ)). IsTyped x status.Refused m acts m acts) (sym g.0) (refl, (refl, refl)), hosts_still h k acts (same_noted h k g.2)),
      came_still start first m acts old new d d came g.1 refl,
    )
handed_on form name old new d h k (Ok status.Failed) gets = λ start first m acts came. absurd (gets m came.stands)
handed_on form name old new d h k (Err why) gets = λ start first m acts came.
    cut (shown_in form m name) start first m acts came (gets m came.stands)
  where
    cut : (text : Option (List ℕ)) (start : Told) (first m : Minidisk) (acts : List Act) → Came start first acts old d m → PutsFront ways.Output old new text
        → (more : List Act) × Cut start first more new
    cut None start first m acts came same =
        (acts, subst (λ (t : Told). Cut start first acts t) (sym same) (cut_here start first m acts old d came))
    cut (Some bytes) start first m acts came part = (acts, cut_typing start first m acts old new d bytes came part)

-- a refusal, of what more is known
pub denied_only : (P : Type 0) (r : Result Status Fault) → IfOk r (λ s. (s ≡ status.Refused) × P) → IfOk r (λ s. s ≡ status.Refused)
denied_only P (Ok s) is = is.0
denied_only P (Err why) is = tt

-- ---- over a list

pub host_none : {A : Type 0} (P : A → Status → Minidisk → List Act → Minidisk → List Act → Type 0) (h : Option Files) (told : Told) (d : Accessed)
    → Continues (OnHost h h (Goes P [])) told d told d (Ok status.Done)
host_none P h told d = λ start first m acts came. (m, acts, (none m acts, hosts_still h h acts refl), came)

pub host_done : {A : Type 0} (P : A → Status → Minidisk → List Act → Minidisk → List Act → Type 0) (xs : List A) (k : ℕ) (s : Status)
    (h l : Option Files) (old new : Told) (d e : Accessed) → length xs ≤ k → Continues (OnHost h l (Goes P (take k xs))) old d new e (Ok s)
    → Continues (OnHost h l (Goes P xs)) old d new e (Ok s)
host_done {A} P xs k s h l old new d e few goes =
    subst (λ (ys : List A). Continues (OnHost h l (Goes P ys)) old d new e (Ok s)) (take_past xs k few) goes

-- the files that patterns fit
pub getting_on : (h k l : Option Files) (get : Get) (t idle r : Status) (all some : List Name) (old new : Told) (d : Accessed)
    → Continues (OnHost h k (IsGotBy h get get.target some)) old d new d (Ok t) → SameFiles k l → all ≡ names_in d.volume.files
    → some ≡ chosen [] get.names all → idle ≡ idle_status get.names all → r ≡ both t idle
    → Continues (OnHost h l (IsGetting h get)) old d new d (Ok r)
getting_on h k l get t idle r all some old new d goes same all_is some_is idle_is r_is = λ start first m acts came.
    let n : all ≡ names_of m = all_is ∙ names_told old d m came.stands in
    let a = goes start first m acts came in (
      a.0,
      a.1,
      (
        (
          t,
          r_is ∙ ap (λ (s : Status). both t s) (idle_is ∙ ap (idle_status get.names) n),
          subst (λ (ns : List Name). IsGotBy h get get.target ns t m acts a.0 a.1) (some_is ∙ ap (chosen [] get.names) n) a.2.0,
        ),
        hosts_then h k l acts a.1 a.1 a.2.1 (hosts_still k l a.1 same),
      ),
      a.3,
    )

-- ---- from a host with the same files

pub barred_from : (h k : Option Files) (get : Get) (file : List ℕ) → SameFiles h k → IsBarred k get file → IsBarred h get file
barred_from None k get file same barred = λ f is. absurd (let e : Some f ≡ None = sym is in cc e)
barred_from (Some f) None get file same barred = absurd (let e : None ≡ Some (f.files, f.folders) = same in cc e)
barred_from (Some f) (Some g) get file same barred = λ x is.
    let files : g.files ≡ f.files = files_of (Some f) (Some g) f g same refl refl in
    let here : f ≡ x = same_Some f x is in
    subst (λ (y : Files). (bytes_eq file get.image.name ≡ true) ⊎ (is_taken file get.replaces y.files ≡ true)) here
    (subst (λ (fs : List HostFile). (bytes_eq file get.image.name ≡ true) ⊎ (is_taken file get.replaces fs ≡ true)) files (barred g refl))

folder_from : (h k : Option Files) (folder : List ℕ) → SameFiles h k → HasNoFolder k folder → HasNoFolder h folder
unfolding is_folder
folder_from None k folder same absent = λ f is. absurd (let e : Some f ≡ None = sym is in cc e)
folder_from (Some f) None folder same absent = absurd (let e : None ≡ Some (f.files, f.folders) = same in cc e)
folder_from (Some f) (Some g) folder same absent = λ x is.
    let folders : g.folders ≡ f.folders = folders_same (Some f) (Some g) same f g refl refl in
    let here : f ≡ x = same_Some f x is in
    ap (list_any (λ (name : List ℕ). bytes_eq name folder)) (sym (ap (λ (y : Files). y.folders) here) ∙ sym folders) ∙ absent g refl

joined_from : (h k : Option Files) (get : Get) (file : List ℕ) (names : List Name) (s : Status) (m : Minidisk) (acts : List Act) (after : Minidisk)
    (more : List Act) → SameFiles h k → IsJoined k get file names s m acts after more → IsJoined h get file names s m acts after more
joined_from h k get file names s m acts after more same (inl (is, inl absent, still)) = inl (is, inl (folder_from h k (folder_of file) same absent), still)
joined_from h k get file names s m acts after more same (inl (is, inr barred, still)) = inl (is, inr (barred_from h k get file same barred), still)
joined_from h k get file names s m acts after more same (inr x) = inr x

each_from : (h k : Option Files) (get : Get) (folder : List ℕ) (names : List Name) (s : Status) (m : Minidisk) (acts : List Act) (after : Minidisk)
    (more : List Act) → SameFiles h k → IsGotEach k get folder names s m acts after more → IsGotEach h get folder names s m acts after more
each_from h k get folder names s m acts after more same (inl (is, absent, still)) = inl (is, folder_from h k folder same absent, still)
each_from h k get folder names s m acts after more same (inr x) = inr x

by_from : (h k : Option Files) (get : Get) (target : Target) (names : List Name) (s : Status) (m : Minidisk) (acts : List Act) (after : Minidisk)
    (more : List Act) → SameFiles h k → IsGotBy k get target names s m acts after more → IsGotBy h get target names s m acts after more
by_from h k get targets.Output names s m acts after more same got = got
by_from h k get (targets.File file) names s m acts after more same got = joined_from h k get file names s m acts after more same got
by_from h k get (targets.Folder folder) names s m acts after more same got = each_from h k get folder names s m acts after more same got

pub getting_from : (h k l : Option Files) (get : Get) (old new : Told) (d : Accessed) (r : Result Status Fault) → SameFiles h k
    → Continues (OnHost k l (IsGetting k get)) old d new d r → Continues (OnHost h l (IsGetting h get)) old d new d r
getting_from h k l get old new d (Ok s) same goes = λ start first m acts came.
    let a = goes start first m acts came in (
      a.0,
      a.1,
      (
        (a.2.0.0, a.2.0.1, by_from h k get get.target (chosen [] get.names (names_of m)) a.2.0.0 m acts a.0 a.1 same a.2.0.2),
        hosts_then h k l acts acts a.1 (hosts_still h k acts same) a.2.1,
      ),
      a.3,
    )
getting_from h k l get old new d (Err why) same goes = goes

-- ---- each into a host file of its own

pub each_absent : (h k : Option Files) (get : Get) (folder : List ℕ) (names : List Name) (told : Told) (d : Accessed) → HasNoFolder h folder → SameFiles h k
    → Continues (OnHost h k (IsGotEach h get folder names)) told d told d (Ok status.Refused)
each_absent h k get folder names told d absent same = λ start first m acts came.
    (m, acts, (inl (refl, absent, (refl, refl)), hosts_still h k acts same), came)

pub each_on : (h k l : Option Files) (get : Get) (folder : List ℕ) (names : List Name) (old new : Told) (d : Accessed) (r : Result Status Fault) → SameFiles h k
    → Continues (OnHost k l (Goes (IsGotTo get folder) names)) old d new d r → Continues (OnHost h l (IsGotEach h get folder names)) old d new d r
each_on h k l get folder names old new d (Ok s) same goes = λ start first m acts came.
    let a = goes start first m acts came in
    (a.0, a.1, (inr a.2.0, hosts_then h k l acts acts a.1 (hosts_still h k acts same) a.2.1), a.3)
each_on h k l get folder names old new d (Err why) same goes = goes
