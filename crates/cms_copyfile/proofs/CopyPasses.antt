-- The second pass over a file, record by record.
use Rattle.std.proofs.Common.{◌≡◌, ◌⊎◌, inl, inr, ℕ, suc, ◌+◌, ◌-◌, ◌<◌, ◌≤◌, Bool, true, false, List, [], ◌∷◌, ◌++◌, drop, length, map, take, Some, Result, Ok, Err, refl, sym, ◌∙◌, ap, subst, arith, append_assoc, append-nil}
use Rattle.std.specs.Prelude.{None, ⊤}
use Rattle.std.specs.Option.{ForSome}
use Rattle.std.proofs.Math.Seq.{drop-nil, take-append_seam, take-nil}
use Rattle.std.proofs.lemmas.List.{length_push, map-append, take_all}
use Rattle.std.proofs.lemmas.Option.{same_Some}
use Rattle.cms_journal.specs.declared.event.Attached.{Attached}
use Rattle.cms_journal.specs.Journal.{Journal}
use Rattle.cms_journal.specs.Told.{Grown, Told}
use Rattle.cms_journal.proofs.Pieces.{plus-none, plus-some}
use Rattle.cms_fields.specs.declared.time.Stamp.{Stamp}
use Rattle.cms_edf.specs.FileDrafts.{Draft}
use Rattle.cms_edf.specs.OpeningSteps.{OfImage}
use Rattle.cms_model.specs.Changes.{Change}
use Rattle.cms_model.specs.LawsUpdates.{now}
use Rattle.cms_model.specs.Minidisks.{Minidisk}
use Rattle.cms_model.specs.Settled.{Agree}
use Rattle.cms_model.specs.Trees.{Image}
use Rattle.cms_model.specs.Volumes.{Disk}
use Rattle.cms_model.proofs.Members.{agree_back}
use Rattle.cms_held.specs.Drafts.{Front}
use Rattle.cms_held.specs.FileWriters.{Drafts}
use Rattle.cms_disk.specs.Cursors.{HandsOut, HasLeft, Cursor, SameFile, text_of}
use Rattle.cms_disk.specs.Disks.{Accessed}
use Rattle.cms_disk.specs.Drafts.{GoesOn, IsGivenUp, WritesAside}
use Rattle.cms_disk.specs.declared.fault.DiskFault.TheVariants as failed
use Rattle.cms_copyfile.specs.Copies.{CopiedTo, CopiesFrom, FailsOn, HasLast, PutsCopies, ReadsWell, StayBeside, copies_from, copies_to}
use Rattle.cms_copyfile.specs.Outputs.{copies_in}
use Rattle.cms_copyfile.specs.Records.{copied}
use Rattle.cms_copyfile.specs.declared.second_pass.CopyFault.{CopyFault}
use Rattle.cms_copyfile.specs.declared.second_pass.CopyFault.TheVariants as why
use Rattle.cms_copyfile.specs.declared.output.CopyPlan.{CopyPlan}
use Rattle.cms_copyfile.proofs.Beside.{left_there}
use Rattle.cms_copyfile.proofs.Passes.{Hands, drop_last, drop_none}

-- ---- which copies are put, and which are to come

-- a record in front of the first that is copied
pub front_to : (plan : CopyPlan) (front : List (List ℕ)) (text : List ℕ) (place : ℕ) → length front ≡ place → place < plan.skipped → copies_to plan (front ++ text ∷ []) ≡ copies_to plan front
front_to plan front text place long less = ap (map (copied plan.style)) (drop_none plan.skipped front text (omega arith))

pub front_from : (plan : CopyPlan) (text : List ℕ) (rest : List (List ℕ)) (place : ℕ) → place < plan.wanted → place < plan.skipped
    → copies_from plan place (text ∷ rest) ≡ copies_from plan (place + 1) rest
front_from plan text rest place wanted less =
    let taken : plan.wanted - place ≡ suc (plan.wanted - (place + 1)) = omega arith in
    let passed : plan.skipped - place ≡ suc (plan.skipped - (place + 1)) = omega arith in
    ap (λ (n : ℕ). map (copied plan.style) (drop (plan.skipped - place) (take n (text ∷ rest)))) taken
    ∙ ap (λ (n : ℕ). map (copied plan.style) (drop n (text ∷ take (plan.wanted - (place + 1)) rest))) passed

-- one that is copied
pub copied_to : (plan : CopyPlan) (front : List (List ℕ)) (text : List ℕ) (place : ℕ) → length front ≡ place → plan.skipped ≤ place
    → copies_to plan (front ++ text ∷ []) ≡ copies_to plan front ++ copied plan.style text ∷ []
copied_to plan front text place long high =
    ap (map (copied plan.style)) (drop_last plan.skipped front text (omega arith)) ∙ map-append (copied plan.style) (drop plan.skipped front) (text ∷ [])

pub copied_from : (plan : CopyPlan) (text : List ℕ) (rest : List (List ℕ)) (place : ℕ) → place < plan.wanted → plan.skipped ≤ place
    → copies_from plan place (text ∷ rest) ≡ copied plan.style text ∷ copies_from plan (place + 1) rest
copied_from plan text rest place wanted high =
    let taken : plan.wanted - place ≡ suc (plan.wanted - (place + 1)) = omega arith in
    let passed : plan.skipped - place ≡ 0 = omega arith in
    let later : plan.skipped - (place + 1) ≡ 0 = omega arith in
    ap (λ (n : ℕ). map (copied plan.style) (drop (plan.skipped - place) (take n (text ∷ rest)))) taken
    ∙ (ap (λ (n : ℕ). map (copied plan.style) (drop n (text ∷ take (plan.wanted - (place + 1)) rest))) passed
    ∙ ap (λ (n : ℕ). copied plan.style text ∷ map (copied plan.style) (drop n (take (plan.wanted - (place + 1)) rest))) (sym later))

-- ---- a record is put

pub record GoesWith (start now : Told) (d : Accessed) (m : Minidisk) (draft : Draft) (change : Change) (stamp : Stamp) (plan : CopyPlan) (front rest : List (List ℕ)) (text : List ℕ) (place : ℕ) : Type 0 where
  pub long : length front ≡ place
  pub wanted : place < plan.wanted
  pub goes : GoesOn start now d m draft change stamp (copies_to plan front) (copies_from plan place (text ∷ rest))

-- none of it, where it isn't copied
pub passed_by : (start now : Told) (d : Accessed) (m : Minidisk) (draft : Draft) (change : Change) (stamp : Stamp) (plan : CopyPlan) (front rest : List (List ℕ)) (text : List ℕ) (place : ℕ)
    → GoesWith start now d m draft change stamp plan front rest text place → place < plan.skipped
    → GoesOn start now d m draft change stamp (copies_to plan (front ++ text ∷ [])) (copies_from plan (place + 1) rest)
passed_by start now d m draft change stamp plan front rest text place g less =
    subst (λ (l : List (List ℕ)). GoesOn start now d m draft change stamp l (copies_from plan (place + 1) rest)) (sym (front_to plan front text place g.long less))
    (subst (GoesOn start now d m draft change stamp (copies_to plan front)) (front_from plan text rest place g.wanted less) g.goes)

-- before its copy is put
pub copy_next : (start now : Told) (d : Accessed) (m : Minidisk) (draft : Draft) (change : Change) (stamp : Stamp) (plan : CopyPlan) (front rest : List (List ℕ)) (text : List ℕ) (place : ℕ)
    → GoesWith start now d m draft change stamp plan front rest text place → plan.skipped ≤ place
    → GoesOn start now d m draft change stamp (copies_to plan front) (copied plan.style text ∷ copies_from plan (place + 1) rest)
copy_next start now d m draft change stamp plan front rest text place g high =
    subst (GoesOn start now d m draft change stamp (copies_to plan front)) (copied_from plan text rest place g.wanted high) g.goes

-- and behind it
pub copy_put : (start now : Told) (d : Accessed) (m : Minidisk) (draft : Draft) (change : Change) (stamp : Stamp) (plan : CopyPlan) (front rest : List (List ℕ)) (text : List ℕ) (place : ℕ) → length front ≡ place
    → plan.skipped ≤ place → GoesOn start now d m draft change stamp (copies_to plan front ++ copied plan.style text ∷ []) (copies_from plan (place + 1) rest)
    → GoesOn start now d m draft change stamp (copies_to plan (front ++ text ∷ [])) (copies_from plan (place + 1) rest)
copy_put start now d m draft change stamp plan front rest text place long high goes =
    subst (λ (l : List (List ℕ)). GoesOn start now d m draft change stamp l (copies_from plan (place + 1) rest)) (sym (copied_to plan front text place long high)) goes

-- with the text that was put, which is the copy
module _ (start old : Told) (d : Accessed) (m : Minidisk) (draft : Draft) (change : Change) (stamp : Stamp) (plan : CopyPlan) (front rest : List (List ℕ)) (text t : List ℕ) (place : ℕ)
    (is : t ≡ copied plan.style text)
    (g : GoesWith start old d m draft change stamp plan front rest text place) (high : plan.skipped ≤ place) where
  before_it : GoesOn start old d m draft change stamp (copies_to plan front) (t ∷ copies_from plan (place + 1) rest)
  before_it =
      subst (λ (c : List ℕ). GoesOn start old d m draft change stamp (copies_to plan front) (c ∷ copies_from plan (place + 1) rest)) (sym is)
      (copy_next start old d m draft change stamp plan front rest text place g high)

  pub put_there : (new : Told) (draft' : Draft) → (GoesOn start old d m draft change stamp (copies_to plan front) (t ∷ copies_from plan (place + 1) rest)
      → GoesOn start new d m draft' change stamp (copies_to plan front ++ t ∷ []) (copies_from plan (place + 1) rest))
      → GoesOn start new d m draft' change stamp (copies_to plan (front ++ text ∷ [])) (copies_from plan (place + 1) rest)
  put_there new draft' puts =
      copy_put start new d m draft' change stamp plan front rest text place g.long high
      (subst (λ (c : List ℕ). GoesOn start new d m draft' change stamp (copies_to plan front ++ c ∷ []) (copies_from plan (place + 1) rest)) is (puts before_it))

  pub put_failed : (new : Told) → (GoesOn start old d m draft change stamp (copies_to plan front) (t ∷ copies_from plan (place + 1) rest) → IsGivenUp start new d m change) → IsGivenUp start new d m change
  put_failed new fails = fails before_it

  -- it is the record that is to come
  pub put_never : ((before : Front) → Drafts draft.writer before (copies_to plan front) (t ∷ copies_from plan (place + 1) rest) → ⊥) → ⊥
  put_never altered = altered before_it.front before_it.drafts

-- ---- how far the pass has come

pub copied_first : (start now : Told) (d : Accessed) (m : Minidisk) (draft : Draft) (change : Change) (stamp : Stamp) (plan : CopyPlan) (c : Cursor) (records : List (List ℕ))
    → CopiesFrom start now d m draft change stamp plan c records → CopiedTo start now d m draft change stamp plan c c records 0
copied_first start now d m draft change stamp plan c records from =
    let none : copies_to plan [] ≡ [] = ap (map (copied plan.style)) (drop-nil plan.skipped) in
    let skipped : plan.skipped - 0 ≡ plan.skipped = omega arith in
    let wanted : plan.wanted - 0 ≡ plan.wanted = omega arith in
    let all : copies_from plan 0 records ≡ copies_in plan records =
    ap (λ (n : ℕ). map (copied plan.style) (drop n (take (plan.wanted - 0) records))) skipped
    ∙ ap (λ (n : ℕ). map (copied plan.style) (drop plan.skipped (take n records))) wanted in
    record {
      front = [];
      rest = records;
      split = refl;
      long = refl;
      goes = subst (λ (l : List (List ℕ)). GoesOn start now d m draft change stamp l (copies_from plan 0 records)) (sym none)
          (subst (GoesOn start now d m draft change stamp []) (sym all) from.goes);
      left = from.left;
    }

-- the start is told, and this holds of it
record AtStart (start : Told) (P : Journal → Type 0) : Type 0 where
  journal : Journal
  told : start ≡ Some journal
  holds : P journal

pub start_told : (start now' : Told) (disk : Disk) (u : ℕ) (m : Minidisk) (k : Journal) → now' ≡ Some k → WritesAside start now' disk u m → (j : Journal) × (start ≡ Some j)
start_told (Some j) now' disk u m k told aside = (j, refl)
start_told None now' disk u m k told aside = let e : None ≡ Some k = sym (plus-none aside.events) ∙ (sym aside.told ∙ told) in absurd (cc e)

hands_there : (before later : Image) (c : Cursor) (records : List (List ℕ)) (there : Bool) → Agree c.leaves before later → HandsOut before c records (Ok there) → HandsOut later c records (Ok there)
hands_there before later c records true agree out = (out.0, out.1, left_there before later c out.0 agree out.2)
hands_there before later c records false agree out = (out.0, left_there before later c records agree out.1)

-- a file's blocks are as they were at the start
agree_then : (start now' : Told) (d : Accessed) (m : Minidisk) (draft : Draft) (change : Change) (stamp : Stamp) (done more : List (List ℕ)) (first : Cursor) → StayBeside start d m first.unit first.leaves
    → (goes : GoesOn start now' d m draft change stamp done more) → AtStart start (λ j. Agree first.leaves (now goes.stands.at first.unit) (now j first.unit))
agree_then start now' d m draft change stamp done more first stay goes =
    let k = goes.stands.at in
    let told : now' ≡ Some k = goes.stands.told_is in
    let begun = start_told start now' d.volume.disk d.volume.unit m k told goes.aside in
    let aside : WritesAside start (Some k) d.volume.disk d.volume.unit m = subst (λ (t : Told). WritesAside start t d.volume.disk d.volume.unit m) told goes.aside in
    record { journal = begun.0; told = begun.1; holds = stay begun.0 k begun.1 goes.stands.minidisk aside }

-- what was left at the start is left now
left_now : (start now' : Told) (d : Accessed) (m : Minidisk) (draft : Draft) (change : Change) (stamp : Stamp) (done more : List (List ℕ)) (first c : Cursor) (rest : List (List ℕ))
    → StayBeside start d m first.unit first.leaves → (goes : GoesOn start now' d m draft change stamp done more) → SameFile first c
    → OfImage start first.unit (λ image. HasLeft image c rest) → HasLeft (now goes.stands.at first.unit) c rest
left_now start now' d m draft change stamp done more first c rest stay goes same left =
    let u = first.unit in
    let k = goes.stands.at in
    let then' = agree_then start now' d m draft change stamp done more first stay goes in
    let j = then'.journal in
    let back : Agree c.leaves (now j u) (now k u) = subst (λ (l : List ℕ). Agree l (now j u) (now k u)) (sym same.leaves) (agree_back first.leaves (now k u) (now j u) then'.holds) in
    left_there (now j u) (now k u) c rest back (left j then'.told)

-- what is handed out beside the draft was left at the start
hands_beside : (start now' : Told) (d : Accessed) (m : Minidisk) (draft : Draft) (change : Change) (stamp : Stamp) (done more : List (List ℕ)) (first c next : Cursor) (rest : List (List ℕ)) (there : Bool)
    → StayBeside start d m first.unit first.leaves → GoesOn start now' d m draft change stamp done more → SameFile first c → SameFile first next → Hands now' first.unit c next there
    → OfImage start first.unit (λ image. HasLeft image c rest) → AtStart start (λ j. HandsOut (now j first.unit) next rest (Ok there))
hands_beside start now' d m draft change stamp done more first c next rest there stay goes same later hands left =
    let u = first.unit in
    let k = goes.stands.at in
    let then' = agree_then start now' d m draft change stamp done more first stay goes in
    let j = then'.journal in
    let on : Agree next.leaves (now k u) (now j u) = subst (λ (l : List ℕ). Agree l (now k u) (now j u)) (sym later.leaves) then'.holds in
    record {
      journal = j;
      told = then'.told;
      holds = hands_there (now k u) (now j u) next rest there on (hands k goes.stands.told_is rest (left_now start now' d m draft change stamp done more first c rest stay goes same left));
    }

-- they are the file's records
pub never_altered : (start now' : Told) (d : Accessed) (m : Minidisk) (draft : Draft) (change : Change) (stamp : Stamp) (done more : List (List ℕ)) (first c next : Cursor) (rest : List (List ℕ))
    → StayBeside start d m first.unit first.leaves → GoesOn start now' d m draft change stamp done more → SameFile first c
    → OfImage now' first.unit (λ image. (all : List (List ℕ)) → HasLeft image c all → HandsOut image next all (Err failed.Altered))
    → OfImage start first.unit (λ image. HasLeft image c rest) → ⊥
never_altered start now' d m draft change stamp done more first c next rest stay goes same hands left =
    let here = left_now start now' d m draft change stamp done more first c rest stay goes same left in
    hands goes.stands.at goes.stands.told_is rest here

only_told : (start : Told) (u : ℕ) (j : Journal) (c : Cursor) (records : List (List ℕ)) → start ≡ Some j → HasLeft (now j u) c records → OfImage start u (λ image. HasLeft image c records)
only_told start u j c records is left k told =
    let same : j ≡ k = same_Some j k (sym is ∙ told) in
    subst (λ (x : Journal). HasLeft (now x u) c records) same left

-- the next record was read
pub last_read : (start now' : Told) (d : Accessed) (m : Minidisk) (draft : Draft) (change : Change) (stamp : Stamp) (plan : CopyPlan) (first c next : Cursor) (records : List (List ℕ)) (place : ℕ)
    → StayBeside start d m first.unit first.leaves → CopiedTo start now' d m draft change stamp plan first c records place → SameFile first c → SameFile first next → Hands now' first.unit c next true
    → next.begun.whole ≡ true → HasLast start first.unit next records
last_read start now' d m draft change stamp plan first c next records place stay to same later hands whole =
    let out = hands_beside start now' d m draft change stamp (copies_to plan to.front) (copies_from plan place to.rest) first c next to.rest true stay to.goes same later hands to.left in
    let handed : (more : List (List ℕ)) × (to.rest ≡ text_of next ∷ more) × HasLeft (now out.journal first.unit) next more = out.holds in
    record {
      front = to.front;
      rest = handed.0;
      split = to.split ∙ ap (λ (l : List (List ℕ)). to.front ++ l) handed.1;
      whole = whole;
      left = only_told start first.unit out.journal next handed.0 out.told handed.2;
    }

-- a read failed, and left the same records to read
pub read_fails : (start now' : Told) (d : Accessed) (m : Minidisk) (draft : Draft) (change : Change) (stamp : Stamp) (plan : CopyPlan) (first c next : Cursor) (records : List (List ℕ)) (place : ℕ)
    → StayBeside start d m first.unit first.leaves → CopiedTo start now' d m draft change stamp plan first c records place → SameFile first c → SameFile first next
    → OfImage now' first.unit (λ image. (all : List (List ℕ)) → HasLeft image c all → HandsOut image next all (Err failed.Device))
    → CopiedTo start now' d m draft change stamp plan first next records place
read_fails start now' d m draft change stamp plan first c next records place stay to same later hands =
    let u = first.unit in
    let goes = to.goes in
    let k = goes.stands.at in
    let then' = agree_then start now' d m draft change stamp (copies_to plan to.front) (copies_from plan place to.rest) first stay goes in
    let j = then'.journal in
    let on : Agree next.leaves (now k u) (now j u) = subst (λ (l : List ℕ). Agree l (now k u) (now j u)) (sym later.leaves) then'.holds in
    let here = left_now start now' d m draft change stamp (copies_to plan to.front) (copies_from plan place to.rest) first c to.rest stay goes same to.left in
    let left : HasLeft (now k u) next to.rest = hands k goes.stands.told_is to.rest here in
    record {
      front = to.front;
      rest = to.rest;
      split = to.split;
      long = to.long;
      goes = goes;
      left = only_told start u j next to.rest then'.told (left_there (now k u) (now j u) next to.rest on left);
    }

-- the draft's device failed, or the records aren't those that were measured
pub put_fails_on : (start now' : Told) (d : Accessed) (m : Minidisk) (draft : Draft) (change : Change) (stamp : Stamp) (plan : CopyPlan) (first c : Cursor) (records : List (List ℕ)) (e : CopyFault)
    → (e ≡ why.Write) ⊎ (e ≡ why.Altered) → ReadsWell start first c records → FailsOn start now' d m draft change stamp plan first c records (Err e)
put_fails_on start now' d m draft change stamp plan first c records e (inl is) well =
    subst (λ (x : CopyFault). FailsOn start now' d m draft change stamp plan first c records (Err x)) (sym is) well
put_fails_on start now' d m draft change stamp plan first c records e (inr is) well =
    subst (λ (x : CopyFault). FailsOn start now' d m draft change stamp plan first c records (Err x)) (sym is) tt

-- ---- one record more

-- it was read, and its copy was put, or not
pub record NextPut (start new : Told) (d : Accessed) (m : Minidisk) (draft : Draft) (change : Change) (stamp : Stamp) (plan : CopyPlan) (first next : Cursor) (records : List (List ℕ)) (place : ℕ)
    (result : Result ⊤ CopyFault) : Type 0 where
  pub front : List (List ℕ)
  pub rest : List (List ℕ)
  pub split : records ≡ front ++ rest
  pub long : length front ≡ place + 1
  pub puts : PutsCopies start new d m draft change stamp (copies_to plan front) (copies_from plan (place + 1) rest) result
  pub left : OfImage start first.unit (λ image. HasLeft image next rest)

-- what putting it says
abbrev pub PutsNth : Told → Told → Accessed → Minidisk → Draft → Draft → Change → Stamp → CopyPlan → ℕ → List ℕ → Result ⊤ CopyFault → Type 0
PutsNth mid new d m draft draft' change stamp plan place text result =
    (start : Told) (front rest : List (List ℕ)) → length front ≡ place → place < plan.wanted
    → GoesOn start mid d m draft change stamp (copies_to plan front) (copies_from plan place (text ∷ rest))
    → PutsCopies start new d m draft' change stamp (copies_to plan (front ++ text ∷ [])) (copies_from plan (place + 1) rest) result

pub next_put : (start mid new : Told) (d : Accessed) (m : Minidisk) (draft draft' : Draft) (change : Change) (stamp : Stamp) (plan : CopyPlan) (first c next : Cursor) (records : List (List ℕ)) (place : ℕ)
    (text : List ℕ)
    (result : Result ⊤ CopyFault) → StayBeside start d m first.unit first.leaves → CopiedTo start mid d m draft change stamp plan first c records place → SameFile first c → SameFile first next
    → place < plan.wanted → Hands mid first.unit c next true → text ≡ text_of next → PutsNth mid new d m draft draft' change stamp plan place text result
    → NextPut start new d m draft' change stamp plan first next records place result
next_put start mid new d m draft draft' change stamp plan first c next records place text result stay to same later wanted hands is_text puts =
    let out = hands_beside start mid d m draft change stamp (copies_to plan to.front) (copies_from plan place to.rest) first c next to.rest true stay to.goes same later hands to.left in
    let handed : (more : List (List ℕ)) × (to.rest ≡ text_of next ∷ more) × HasLeft (now out.journal first.unit) next more = out.holds in
    let more = handed.0 in
    let here : to.rest ≡ text ∷ more = handed.1 ∙ ap (λ (t : List ℕ). t ∷ more) (sym is_text) in
    let push = length_push to.front text in
    let long = to.long in
    record {
      front = to.front ++ text ∷ [];
      rest = more;
      split = to.split ∙ (ap (λ (l : List (List ℕ)). to.front ++ l) here ∙ sym (append_assoc to.front (text ∷ []) more));
      long = omega arith;
      puts = puts start to.front more to.long wanted
          (subst (λ (l : List (List ℕ)). GoesOn start mid d m draft change stamp (copies_to plan to.front) (copies_from plan place l)) here to.goes);
      left = only_told start first.unit out.journal next more out.told handed.2;
    }

pub copied_next : (start new : Told) (d : Accessed) (m : Minidisk) (draft draft' : Draft) (change : Change) (stamp : Stamp) (plan : CopyPlan) (first next : Cursor) (records : List (List ℕ)) (place : ℕ) (x : ⊤)
    → NextPut start new d m draft' change stamp plan first next records place (Ok x)
    → CopiedTo start new d m draft' change stamp plan first next records (place + 1)
copied_next start new d m draft draft' change stamp plan first next records place x one = record {
  front = one.front;
  rest = one.rest;
  split = one.split;
  long = one.long;
  goes = one.puts;
  left = one.left;
}

-- where it fails, it doesn't matter how far it had come
pub fails_so : (start now' : Told) (d : Accessed) (m : Minidisk) (draft : Draft) (change : Change) (stamp : Stamp) (done more done' more' : List (List ℕ)) (e : CopyFault) → PutsCopies start now' d m draft change stamp done more (Err e)
    → PutsCopies start now' d m draft change stamp done' more' (Err e)
fails_so start now' d m draft change stamp done more done' more' why.Read is = is
fails_so start now' d m draft change stamp done more done' more' why.Write is = is
fails_so start now' d m draft change stamp done more done' more' why.Altered is = is

pub nth_fails : (start mid new : Told) (d : Accessed) (m : Minidisk) (draft draft' : Draft) (change : Change) (stamp : Stamp) (plan : CopyPlan) (first c next : Cursor) (records : List (List ℕ)) (place : ℕ)
    (text : List ℕ)
    (e : CopyFault) → StayBeside start d m first.unit first.leaves → CopiedTo start mid d m draft change stamp plan first c records place → SameFile first c → SameFile first next → place < plan.wanted
    → Hands mid first.unit c next true → text ≡ text_of next → PutsNth mid new d m draft draft' change stamp plan place text (Err e)
    → PutsCopies start new d m draft' change stamp (copies_in plan records) [] (Err e)
nth_fails start mid new d m draft draft' change stamp plan first c next records place text e stay to same later wanted hands is_text puts =
    let one = next_put start mid new d m draft draft' change stamp plan first c next records place text (Err e) stay to same later wanted hands is_text puts in
    fails_so start new d m draft' change stamp (copies_to plan one.front) (copies_from plan (place + 1) one.rest) (copies_in plan records) [] e one.puts

-- ---- how the pass ends

nothing_from : (plan : CopyPlan) (place : ℕ) (rest : List (List ℕ)) → take (plan.wanted - place) rest ≡ [] → copies_from plan place rest ≡ []
nothing_from plan place rest none =
    ap (λ (l : List (List ℕ)). map (copied plan.style) (drop (plan.skipped - place) l)) none
    ∙ ap (λ (l : List (List ℕ)). map (copied plan.style) l) (drop-nil (plan.skipped - place))

ended : (start now' : Told) (d : Accessed) (m : Minidisk) (draft : Draft) (change : Change) (stamp : Stamp) (plan : CopyPlan) (front rest records : List (List ℕ)) (place : ℕ)
    → GoesOn start now' d m draft change stamp (copies_to plan front) (copies_from plan place rest) → take plan.wanted records ≡ front → take (plan.wanted - place) rest ≡ []
    → GoesOn start now' d m draft change stamp (copies_in plan records) []
ended start now' d m draft change stamp plan front rest records place goes taken none =
    subst (λ (l : List (List ℕ)). GoesOn start now' d m draft change stamp (map (copied plan.style) (drop plan.skipped l)) []) (sym taken)
    (subst (GoesOn start now' d m draft change stamp (copies_to plan front)) (nothing_from plan place rest none) goes)

-- all that are wanted were read
pub copied_wanted : (start now' : Told) (d : Accessed) (m : Minidisk) (draft : Draft) (change : Change) (stamp : Stamp) (plan : CopyPlan) (first c : Cursor) (records : List (List ℕ)) (place : ℕ)
    → CopiedTo start now' d m draft change stamp plan first c records place → place ≡ plan.wanted → GoesOn start now' d m draft change stamp (copies_in plan records) []
copied_wanted start now' d m draft change stamp plan first c records place to is =
    let none : plan.wanted - place ≡ 0 = omega arith in
    let front : take plan.wanted records ≡ to.front =
    ap (λ (n : ℕ). take n records) (sym (to.long ∙ is)) ∙ (ap (take (length to.front)) to.split ∙ take-append_seam to.front to.rest) in
    ended start now' d m draft change stamp plan to.front to.rest records place to.goes front (ap (λ (n : ℕ). take n to.rest) none)

-- there is none more
pub copied_all : (start now' : Told) (d : Accessed) (m : Minidisk) (draft : Draft) (change : Change) (stamp : Stamp) (plan : CopyPlan) (first c next : Cursor) (records : List (List ℕ)) (place : ℕ)
    → StayBeside start d m first.unit first.leaves → CopiedTo start now' d m draft change stamp plan first c records place → SameFile first c → SameFile first next → place ≤ plan.wanted
    → Hands now' first.unit c next false → GoesOn start now' d m draft change stamp (copies_in plan records) []
copied_all start now' d m draft change stamp plan first c next records place stay to same later low hands =
    let out = hands_beside start now' d m draft change stamp (copies_to plan to.front) (copies_from plan place to.rest) first c next to.rest false stay to.goes same later hands to.left in
    let handed : (to.rest ≡ []) × HasLeft (now out.journal first.unit) next to.rest = out.holds in
    let none = handed.0 in
    let whole : records ≡ to.front = to.split ∙ (ap (λ (l : List (List ℕ)). to.front ++ l) none ∙ append-nil to.front) in
    let long = ap length whole in
    let long' = to.long in
    ended start now' d m draft change stamp plan to.front to.rest records place to.goes (take_all plan.wanted records (omega arith) ∙ whole)
    (ap (take (plan.wanted - place)) none ∙ take-nil (plan.wanted - place))

-- a read failed
pub given_up : (start now' : Told) (d : Accessed) (m : Minidisk) (draft : Draft) (change : Change) (stamp : Stamp) (done more : List (List ℕ)) → GoesOn start now' d m draft change stamp done more → IsGivenUp start now' d m change
given_up start now' d m draft change stamp done more goes = record { stands = goes.stands; aside = goes.aside; few = goes.few }

-- ---- the units of a journal that has grown

pub units_grown : (old new : Told) (P : List Attached → Type 0) → Grown old new → ForSome old (λ j. P j.units) → ForSome new (λ j. P j.units)
units_grown None new P grown has j told = let e : None ≡ Some j = sym (plus-none grown.events) ∙ (sym grown.told ∙ told) in absurd (cc e)
units_grown (Some k) new P grown has j told =
    let same = same_Some _ j (sym (plus-some k grown.events) ∙ (sym grown.told ∙ told)) in
    subst (λ (x : Journal). P x.units) same (has k refl)
