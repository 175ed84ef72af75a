-- Calls that only talk: how they join, and how lines are taken and dropped.
use Rattle.std.proofs.Common.{◌≡◌, ◌≤◌, ◌⊎◌, ⊎_elim, ℕ, ℤ, suc, List, [], ◌∷◌, Option, Some, None, Result, Ok, Err, arith, refl, sym, ap, ◌∙◌, subst}
use Rattle.cms_journal.specs.Causes.{Rose}
use Rattle.cms_journal.specs.Journal.{adds}
use Rattle.cms_journal.specs.Told.{Told, Idle, NoDisk}
use Rattle.cms_journal.specs.declared.event.Event.{Event}
use Rattle.cms_journal.specs.declared.event.Event.TheVariants.{Now}
use Rattle.cms_journal.proofs.Pieces.{idle_same, idle_then}
use Rattle.cms_model.specs.Acts.{Act, Done, bind, taking, turning}
use Rattle.cms_model.specs.Beats.{IsRead, OnlyRead}
use Rattle.cms_model.specs.Items.{Item, Text}
use Rattle.cms_model.specs.Objects.{Object}
use Rattle.cms_model.specs.Runs.{Ran}
use Rattle.cms_model.specs.Slots.{Slot}
use Rattle.cms_model.proofs.Join.{after, broke_in, ran_none}
use Rattle.cms_model.proofs.Single.{broke_before, broke_take, ran_take, ran_turn}
use Rattle.cms_line.specs.ConsoleState.{Console}
use Rattle.cms_line.specs.Consoles.{Stayed, Took, item_of}
use Rattle.cms_line.specs.declared.console.ConsoleLine.{ConsoleLine}
use Rattle.cms_line.specs.declared.console.ConsoleLine.TheVariants as line
use Rattle.cms_line.specs.declared.message.Message.{Message}
use Rattle.cms_search.specs.Asks as asks
use Rattle.cms_search.specs.Asks.{ask, asking, complaining, complaint, dropping, on_item}
use Rattle.cms_world.specs.Seen.{Seen}
use Rattle.cms_search.specs.Calls.{Does, after_world, itself, said}
use Rattle.cms_search.specs.Machine.{Machine}
use Rattle.cms_search.specs.Talks.{Talks, asked_in, item_in, standing, with_lines}
use Rattle.cms_search.specs.declared.asked_line.Asked.{Asked}
use Rattle.cms_search.specs.declared.asked_line.Asked.TheVariants.{Given, Spent}
use Rattle.cms_search.specs.declared.asked_line.NoLine.{NoLine}
use Rattle.cms_search.specs.declared.asked_line.NoLine.TheVariants as no
use Rattle.cms_search.specs.declared.state.End.{End}
use Rattle.cms_search.specs.declared.state.End.TheVariants.{Edge}
use Rattle.cms_search.proofs.Acts.{rose_from}
use Rattle.cms_search.proofs.Says.{aside}

-- ---- how calls join

-- a part of a call: its tree has come so far
pub record Came {R : Type 0} (before now : Seen) (was is : Console) (t u : Act R) : Type 0 where
  pub each : (n : ℕ) (units : List Slot) (os : List Object) → Ran (standing before.told was n units os) (standing now.told is n units os) t u
  pub idle : Idle before.told now.told
  pub faults : now.faults ≡ before.faults
  pub edges : before.edges ≤ now.edges

pub came_none : {R : Type 0} (before : Seen) (was : Console) (t : Act R) → Came before before was was t t
came_none before was t = record {
  each = λ n units os. ran_none (standing before.told was n units os) t;
  idle = idle_same before.told before.told refl;
  faults = refl;
  edges = omega arith;
}

-- a further call did its part
pub came_on : {A R T : Type 0} (before mid now : Seen) (was c is : Console) (t : Act R) (s : Act A) (f : A → Act R) (x : T) (d : T → A)
    → Came before mid was c t (bind s f) → Talks mid now c is s (Ok x) d → Came before now was is t (f (d x))
came_on before mid now was c is t s f x d a b = record {
  each = λ n units os. after (standing before.told was n units os) (standing mid.told c n units os) (standing now.told is n units os) t s f (d x) (a.each n units os) (b.each n units os);
  idle = idle_then before.told mid.told now.told a.idle b.idle;
  faults = b.faults ∙ a.faults;
  edges = omega (arith, a.edges, b.edges);
}

-- or was cut off in it
pub came_off : {A R T U : Type 0} (before mid now : Seen) (was c is : Console) (t : Act R) (s : Act A) (f : A → Act R) (e : End) (d : T → A) (d' : U → R)
    → Came before mid was c t (bind s f) → Talks {T = T} mid now c is s (Err e) d → Talks before now was is t (Err e) d'
came_off before mid now was c is t s f e d d' a b = record {
  each = λ n units os. broke_in (standing before.told was n units os) (standing mid.told c n units os) (standing now.told is n units os) t s f (a.each n units os) (b.each n units os);
  idle = idle_then before.told mid.told now.told a.idle b.idle;
  faults = b.faults ∙ a.faults;
  edges = omega (arith, a.edges, b.edges);
  cause = λ edge. rose_from before.edges mid.edges now.edges a.edges (b.cause edge);
}

-- the tree is done
pub came_to : {R T : Type 0} (before now : Seen) (was is : Console) (t : Act R) (x : T) (d : T → R) → Came before now was is t (Done (d x)) → Talks before now was is t (Ok x) d
came_to before now was is t x d a = record { each = λ n units os. a.each n units os; idle = a.idle; faults = a.faults; edges = a.edges; cause = tt }

-- a call that leaves the console alone
pub of_does : {R T : Type 0} (before now : Seen) (c : Console) (t : Act R) (r : Result T End) (d : T → R) → Does before now t r d → Talks before now c c t r d
of_does before now c t r d a = record {
  each = λ n units os. a.each (standing before.told c n units os) refl;
  idle = a.idle;
  faults = a.faults;
  edges = a.edges;
  cause = a.cause;
}

-- ---- the console and the clock

read_no_disk : (es : List Event) → OnlyRead es → NoDisk es
read_no_disk es only = aside IsRead (λ u k v is. is) (λ u is. is) es only

pub took : (before now : Seen) (was is : Console) (l : ConsoleLine) → Took before.told now.told was is l → now.faults ≡ before.faults → before.edges ≤ now.edges
    → Talks before now was is taking (Ok l) item_of
took before now was is l t faults edges = record {
  each = λ n units os.
      ran_take (standing before.told was n units os) (standing now.told is n units os) (item_of l) (λ i. Done i) t.events t.told t.only (omega arith) refl t.takes refl;
  idle = record { events = t.events; told = t.told; none = read_no_disk t.events t.only };
  faults = faults;
  edges = edges;
  cause = tt;
}

pub stayed : (before now : Seen) (was is : Console) (e : End) → Stayed before.told now.told was is → now.faults ≡ before.faults → before.edges ≤ now.edges
    → (e ≡ Edge → Rose before.edges now.edges) → Talks {T = ConsoleLine} before now was is taking (Err e) item_of
stayed before now was is e st faults edges cause = record {
  each = λ n units os.
      broke_take (standing before.told was n units os) (standing now.told is n units os) (λ i. Done i) st.events st.told st.only st.keeps.lazy (omega arith) refl;
  idle = record { events = st.events; told = st.told; none = read_no_disk st.events st.only };
  faults = faults;
  edges = edges;
  cause = cause;
}

-- the clock told its seconds
pub clock_told : (before now : Seen) (seconds : ℤ) → now.told ≡ adds (Now seconds) before.told → now.faults ≡ before.faults → before.edges ≤ now.edges
    → Does before now turning (Ok seconds) itself
clock_told before now seconds told faults edges = record {
  each = λ p journal.
      ran_turn p (after_world p now) seconds (λ m. Done m) (told ∙ ap (λ (t : Told). adds (Now seconds) t) (sym journal)) (omega arith) refl
      (record { unread = refl; ended = refl }) refl;
  idle = record { events = Now seconds ∷ []; told = told; none = (tt, tt) };
  faults = faults;
  edges = edges;
  cause = tt;
}

pub clock_failed : (before now : Seen) (e : End) → now.told ≡ before.told → now.faults ≡ before.faults → before.edges ≤ now.edges
    → Rose before.edges now.edges → Does {T = ℤ} before now turning (Err e) itself
clock_failed before now e told faults edges rose = record {
  each = λ p journal. broke_before p (after_world p now) turning (told ∙ sym journal) (omega arith) refl;
  idle = idle_same before.told now.told told;
  faults = faults;
  edges = edges;
  cause = λ edge. rose;
}

-- ---- a line is dropped

abbrev talks_drop : Seen → Seen → Console → Option Message → Result (Unit {0}) End → Type 0
talks_drop before now c complaint r = Talks {T = Unit {0}} before now c c (dropping complaint) r said

pub drop_stops : (before now : Seen) (c : Console) (complaint : Option Message) (e : End) → Does {T = ℤ} before now turning (Err e) itself
    → talks_drop before now c complaint (Err e)
drop_stops before now c complaint e d =
    came_off before before now c c c (dropping complaint) turning (λ seconds. complaining complaint (Done tt)) e itself said
    (came_none before c (dropping complaint)) (of_does before now c turning (Err e) itself d)

spent : (before now : Seen) (c : Console) (complaint : Option Message) (seconds : ℤ) → Does before now turning (Ok seconds) itself
    → Came before now c c (dropping complaint) (complaining complaint (Done tt))
spent before now c complaint seconds d =
    came_on before before now c c c (dropping complaint) turning (λ m. complaining complaint (Done tt)) seconds itself
    (came_none before c (dropping complaint)) (of_does before now c turning (Ok seconds) itself d)

bind_none : (complaint : Option Message) → complaining complaint (Done tt) ≡ bind (complaining complaint (Done tt)) (λ (y : Unit {0}). Done y)
bind_none None = refl
bind_none (Some message) = refl

so_far : (before now : Seen) (c : Console) (complaint : Option Message) (seconds : ℤ) → Does before now turning (Ok seconds) itself
    → Came before now c c (dropping complaint) (bind (complaining complaint (Done tt)) (λ (y : Unit {0}). Done y))
so_far before now c complaint seconds d =
    subst (λ (t : Act (Unit {0})). Came before now c c (dropping complaint) t) (bind_none complaint) (spent before now c complaint seconds d)

abbrev nothing : Act (Unit {0})
nothing = Done tt

-- nothing is typed
pub silent : (before : Seen) (x : Unit {0}) → Does before before (Done tt) (Ok x) said
silent before x = record {
  each = λ p journal. subst (λ (t : Told). Ran p (record p { journal = t }) nothing nothing) journal (ran_none p nothing);
  idle = idle_same before.told before.told refl;
  faults = refl;
  edges = omega arith;
  cause = tt;
}

pub drop_goes : (before mid now : Seen) (c : Console) (complaint : Option Message) (seconds : ℤ) (r : Result (Unit {0}) End)
    → Does before mid turning (Ok seconds) itself → Does mid now (complaining complaint (Done tt)) r said → talks_drop before now c complaint r
drop_goes before mid now c complaint seconds (Ok x) d t =
    came_to before now c c (dropping complaint) x said
    (came_on before mid now c c c (dropping complaint) (complaining complaint (Done tt)) (λ y. Done y) x said (so_far before mid c complaint seconds d)
    (of_does mid now c (complaining complaint (Done tt)) (Ok x) said t))
drop_goes before mid now c complaint seconds (Err e) d t =
    came_off before mid now c c c (dropping complaint) (complaining complaint (Done tt)) (λ y. Done y) e said said (so_far before mid c complaint seconds d)
    (of_does mid now c (complaining complaint (Done tt)) (Err e) said t)

-- ---- an ask

abbrev pub ask_tree : Machine → ℕ → Act asks.Asked
ask_tree s left = ask (with_lines s [] left)

-- the console's next line is due, and so many turns are left
abbrev pub IsDue : Seen → Seen → Console → Console → ℕ → ℕ → Type 0
IsDue before now was is all left = (s : Machine) → Came before now was is (ask_tree s all) (ask_tree s left)

abbrev AskDone : Seen → Seen → Console → Console → ℕ → ℕ → Result Asked End → Type 0
AskDone before now was is all left r = (s : Machine) → Talks before now was is (ask_tree s all) r (asked_in (with_lines s [] left))

takes_next : (s : Machine) (left : ℕ) → ask_tree s left ≡ bind taking (on_item (with_lines s [] left) (asking left))
unfolding asking
takes_next s left = refl

due_item : (before mid now : Seen) (was c is : Console) (all left : ℕ) (l : ConsoleLine) (s : Machine) → Came before mid was c (ask_tree s all) (ask_tree s left)
    → Talks mid now c is taking (Ok l) item_of → Came before now was is (ask_tree s all) (on_item (with_lines s [] left) (asking left) (item_of l))
due_item before mid now was c is all left l s due took =
    came_on before mid now was c is (ask_tree s all) taking (on_item (with_lines s [] left) (asking left)) l item_of
    (subst (λ (t : Act asks.Asked). Came before mid was c (ask_tree s all) t) (takes_next s left) due) took

-- no line could be taken
pub ask_stops : (before mid now : Seen) (was c is : Console) (all left : ℕ) (e : End) → IsDue before mid was c all left
    → Talks {T = ConsoleLine} mid now c is taking (Err e) item_of → AskDone before now was is all left (Err e)
ask_stops before mid now was c is all left e due stayed s =
    came_off before mid now was c is (ask_tree s all) taking (on_item (with_lines s [] left) (asking left)) e item_of (asked_in (with_lines s [] left))
    (subst (λ (t : Act asks.Asked). Came before mid was c (ask_tree s all) t) (takes_next s left) (due s)) stayed

-- a line is given, which is empty at the script's end
pub ask_gives : (before mid now : Seen) (was c is : Console) (all left : ℕ) (l : ConsoleLine) (text : List ℕ) → IsDue before mid was c all left
    → Talks mid now c is taking (Ok l) item_of → (item_of l ≡ Some (Text text)) ⊎ ((item_of l ≡ None) × (text ≡ [])) → AskDone before now was is all left (Ok (Given text))
ask_gives before mid now was c is all left l text due took is_line s =
    came_to before now was is (ask_tree s all) (Given text) (asked_in (with_lines s [] left)) (⊎_elim
    (λ (e : item_of l ≡ Some (Text text)). subst (λ (i : Option Item). Came before now was is (ask_tree s all) (on_item (with_lines s [] left) (asking left) i)) e there)
    (λ (e : (item_of l ≡ None) × (text ≡ [])). subst (λ (t : List ℕ). Came before now was is (ask_tree s all) (Done (asks.Given (with_lines s [] left) t))) (sym e.1)
    (subst (λ (i : Option Item). Came before now was is (ask_tree s all) (on_item (with_lines s [] left) (asking left) i)) e.0 there))
    is_line)
  where
    there : Came before now was is (ask_tree s all) (on_item (with_lines s [] left) (asking left) (item_of l))
    there = due_item before mid now was c is all left l s (due s) took

-- a line that is none is dropped, and no turn is left for it
no_turn : (s : Machine) (no_line : NoLine) (left : ℕ) → left ≡ 0 → on_item (with_lines s [] left) (asking left) (Some (item_in no_line)) ≡ Done asks.Spent
no_turn s no.Bad left none = rw none refl
no_turn s no.Long left none = rw none refl
no_turn s no.Rest left none = rw none refl

due_no_line : (before mid now : Seen) (was c is : Console) (all left : ℕ) (l : ConsoleLine) (no_line : NoLine) (s : Machine)
    → Came before mid was c (ask_tree s all) (ask_tree s left) → Talks mid now c is taking (Ok l) item_of → item_of l ≡ Some (item_in no_line)
    → Came before now was is (ask_tree s all) (on_item (with_lines s [] left) (asking left) (Some (item_in no_line)))
due_no_line before mid now was c is all left l no_line s due took e =
    subst (λ (i : Option Item). Came before now was is (ask_tree s all) (on_item (with_lines s [] left) (asking left) i)) e
    (due_item before mid now was c is all left l s due took)

pub ask_spent : (before mid now : Seen) (was c is : Console) (all left : ℕ) (l : ConsoleLine) (no_line : NoLine) → IsDue before mid was c all left
    → Talks mid now c is taking (Ok l) item_of → item_of l ≡ Some (item_in no_line) → left ≡ 0 → AskDone before now was is all left (Ok Spent)
ask_spent before mid now was c is all left l no_line due took e none s =
    came_to before now was is (ask_tree s all) Spent (asked_in (with_lines s [] left))
    (subst (λ (t : Act asks.Asked). Came before now was is (ask_tree s all) t) (no_turn s no_line left none)
    (due_no_line before mid now was c is all left l no_line s (due s) took e))

-- with a turn the next one is due
abbrev next_due : Machine → NoLine → ℕ → Act asks.Asked
next_due s no_line left = bind (dropping (complaint (item_in no_line))) (λ x. ask_tree s left)

a_turn : (s : Machine) (no_line : NoLine) (left less : ℕ) → left ≡ suc less → on_item (with_lines s [] left) (asking left) (Some (item_in no_line)) ≡ next_due s no_line less
a_turn s no_line left less some =
    subst (λ (n : ℕ). on_item (with_lines s [] n) (asking n) (Some (item_in no_line)) ≡ next_due s no_line less) (sym some) (go no_line)
  where
    go : (no_line : NoLine) → on_item (with_lines s [] (suc less)) (asking (suc less)) (Some (item_in no_line)) ≡ next_due s no_line less
    go no.Bad = refl
    go no.Long = refl
    go no.Rest = refl

due_drop : (before mid now : Seen) (was c is : Console) (all left less : ℕ) (l : ConsoleLine) (no_line : NoLine) (s : Machine)
    → Came before mid was c (ask_tree s all) (ask_tree s left) → Talks mid now c is taking (Ok l) item_of → item_of l ≡ Some (item_in no_line) → left ≡ suc less
    → Came before now was is (ask_tree s all) (next_due s no_line less)
due_drop before mid now was c is all left less l no_line s due took e some =
    subst (λ (t : Act asks.Asked). Came before now was is (ask_tree s all) t) (a_turn s no_line left less some)
    (due_no_line before mid now was c is all left l no_line s due took e)

pub ask_goes_on : (before mid half now : Seen) (was c is : Console) (all left less : ℕ) (l : ConsoleLine) (no_line : NoLine) (x : Unit {0})
    → IsDue before mid was c all left → Talks mid half c is taking (Ok l) item_of → item_of l ≡ Some (item_in no_line) → left ≡ suc less
    → ((k : Console) → talks_drop half now k (complaint (item_in no_line)) (Ok x)) → IsDue before now was is all less
ask_goes_on before mid half now was c is all left less l no_line x due took e some dropped s =
    came_on before half now was is is (ask_tree s all) (dropping (complaint (item_in no_line))) (λ y. ask_tree s less) x said
    (due_drop before mid half was c is all left less l no_line s (due s) took e some) (dropped is)

pub ask_breaks : (before mid half now : Seen) (was c is : Console) (all left less : ℕ) (l : ConsoleLine) (no_line : NoLine) (e : End)
    → IsDue before mid was c all left → Talks mid half c is taking (Ok l) item_of → item_of l ≡ Some (item_in no_line) → left ≡ suc less
    → ((k : Console) → talks_drop half now k (complaint (item_in no_line)) (Err e)) → AskDone before now was is all less (Err e)
ask_breaks before mid half now was c is all left less l no_line e due took is_no_line some dropped s =
    came_off before half now was is is (ask_tree s all) (dropping (complaint (item_in no_line))) (λ y. ask_tree s less) e said (asked_in (with_lines s [] less))
    (due_drop before mid half was c is all left less l no_line s (due s) took is_no_line some) (dropped is)

-- a line was stacked
stacked_line : (s : Machine) (line : List ℕ) (more : List (List ℕ)) (left : ℕ) → ask (with_lines s (line ∷ more) left) ≡ Done (asks.Given (with_lines s more left) line)
unfolding asking
stacked_line s line more left = refl

pub ask_stacked : (before : Seen) (c : Console) (stack more : List (List ℕ)) (line : List ℕ) (left : ℕ) → stack ≡ line ∷ more
    → (s : Machine) → Talks before before c c (ask (with_lines s stack left)) (Ok (Given line)) (asked_in (with_lines s more left))
ask_stacked before c stack more line left is s =
    came_to before before c c (ask (with_lines s stack left)) (Given line) (asked_in (with_lines s more left))
    (subst (λ (t : Act asks.Asked). Came before before c c (ask (with_lines s stack left)) t)
    (ap (λ (lines : List (List ℕ)). ask (with_lines s lines left)) is ∙ stacked_line s line more left)
    (came_none before c (ask (with_lines s stack left))))

-- no line was stacked
pub ask_unstacked : (before now : Seen) (was is : Console) (all left : ℕ) (r : Result Asked End) (stack stack' : List (List ℕ)) → stack ≡ [] → stack' ≡ []
    → AskDone before now was is all left r → (s : Machine) → Talks before now was is (ask (with_lines s stack all)) r (asked_in (with_lines s stack' left))
ask_unstacked before now was is all left r stack stack' none none' done s =
    subst (λ (lines : List (List ℕ)). Talks before now was is (ask (with_lines s lines all)) r (asked_in (with_lines s stack' left))) (sym none)
    (subst (λ (lines : List (List ℕ)). Talks before now was is (ask_tree s all) r (asked_in (with_lines s lines left))) (sym none') (done s))

-- what the console gave that is no line
pub which : (l : ConsoleLine) (n : NoLine) → ((l ≡ line.Bad) × (n ≡ no.Bad)) ⊎ (((l ≡ line.Long) × (n ≡ no.Long)) ⊎ ((l ≡ line.Rest) × (n ≡ no.Rest)))
    → item_of l ≡ Some (item_in n)
which l n is = ⊎_elim
    (λ (e : (l ≡ line.Bad) × (n ≡ no.Bad)). same line.Bad no.Bad refl e.0 e.1)
    (λ (e : ((l ≡ line.Long) × (n ≡ no.Long)) ⊎ ((l ≡ line.Rest) × (n ≡ no.Rest))). ⊎_elim
    (λ (f : (l ≡ line.Long) × (n ≡ no.Long)). same line.Long no.Long refl f.0 f.1)
    (λ (f : (l ≡ line.Rest) × (n ≡ no.Rest)). same line.Rest no.Rest refl f.0 f.1) e) is
  where
    same : (l' : ConsoleLine) (n' : NoLine) → item_of l' ≡ Some (item_in n') → l ≡ l' → n ≡ n' → item_of l ≡ Some (item_in n)
    same l' n' fits e f = ap item_of e ∙ fits ∙ ap (λ (k : NoLine). Some (item_in k)) (sym f)
