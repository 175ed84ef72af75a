-- Lines that are asked for one after another.
use Rattle.std.proofs.Common.{◌≡◌, ◌∙◌, ◌<◌, ◌+◌, ◌-◌, ℕ, suc, List, [], ◌∷◌, ◌++◌, Ok, Err, refl, ap, arith}
use Rattle.cms_model.specs.Acts.{Act, Done, bind}
use Rattle.cms_model.specs.Slots.{Slot}
use Rattle.cms_search.specs.Calls.{Acts, Comes, Spot, machine_of}
use Rattle.cms_search.specs.Machine.{Machine}
use Rattle.cms_search.specs.Talks.{ask_tree, asked_of}
use Rattle.cms_search.specs.declared.asked_line.Asked as declared
use Rattle.cms_search.specs.declared.asked_line.Asked.TheVariants as asked
use Rattle.cms_search.specs.declared.state.End.{End}
use Rattle.cms_search.specs.declared.state.End.TheVariants.{Memory}
use Rattle.cms_search.specs.declared.state.State.{State}
use Rattle.cms_search.proofs.Acts.{acts_after, acts_done, acts_stop, comes_in, comes_same, comes_then, no_memory}
use Rattle.cms_execio.specs.AskedLines.{asked_lines_of, asking_tree}
use Rattle.cms_execio.specs.Diskw as writing
use Rattle.cms_execio.specs.Diskw.{asking_lines, with_line}
use Rattle.cms_execio.specs.declared.asked_lines.AskedLines as asked_lines
use Rattle.cms_execio.specs.declared.asked_lines.AskedLines.TheVariants.{All, Spent}

-- so many are still asked for, behind these
abbrev pub tree_of : State → ℕ → List (List ℕ) → List Slot → Act writing.AskedLines
tree_of st n lines units = asking_lines n lines (machine_of st units)

-- what follows a line
abbrev pub next_of : ℕ → List (List ℕ) → Machine → List ℕ → Act writing.AskedLines
next_of n lines now line = asking_lines n (lines ++ line ∷ []) now

one_more : (st : State) (n : ℕ) (lines : List (List ℕ)) (units : List Slot) → tree_of st (suc n) lines units ≡ bind (ask_tree st units) (with_line (next_of n lines))
unfolding asking_lines
one_more st n lines units = refl

none_more : (st : State) (lines : List (List ℕ)) (units : List Slot) → tree_of st 0 lines units ≡ Done (writing.All (machine_of st units) lines)
unfolding asking_lines
none_more st lines units = refl

module _ (old mid new : Spot) (all given : ℕ) (lines : List (List ℕ)) (less : given < all)
    (far : Comes old mid (asking_tree old.state all) (tree_of mid.state (all - given) lines)) where
  -- how many are asked for behind the next one
  abbrev left : ℕ
  left = all - (given + 1)

  due : all - given ≡ suc left
  due = omega (arith, less)

  so_far : Comes old mid (asking_tree old.state all) (λ units. bind (ask_tree mid.state units) (with_line (next_of left lines)))
  so_far =
      comes_then old mid mid (asking_tree old.state all) (tree_of mid.state (all - given) lines) (λ units. bind (ask_tree mid.state units) (with_line (next_of left lines))) far
      (comes_same mid (tree_of mid.state (all - given) lines) (λ units. bind (ask_tree mid.state units) (with_line (next_of left lines)))
      (λ units h. ap (λ (k : ℕ). tree_of mid.state k lines units) due ∙ one_more mid.state left lines units))

  -- a line was given
  pub asks_more : (line : List ℕ) → Acts mid new (ask_tree mid.state) (Ok (asked.Given line)) (asked_of new.state)
      → Comes old new (asking_tree old.state all) (tree_of new.state left (lines ++ line ∷ []))
  asks_more line a =
      comes_then old mid new (asking_tree old.state all) (λ units. bind (ask_tree mid.state units) (with_line (next_of left lines))) (tree_of new.state left (lines ++ line ∷ []))
      so_far (comes_in {T = declared.Asked} mid new (ask_tree mid.state) (with_line (next_of left lines)) (asked.Given line) (asked_of new.state) a)

  -- there is no memory to keep it
  pub asks_none : (line : List ℕ) → Acts mid new (ask_tree mid.state) (Ok (asked.Given line)) (asked_of new.state)
      → Acts {T = asked_lines.AskedLines} old new (asking_tree old.state all) (Err Memory) (asked_lines_of new.state)
  asks_none line a = no_memory old new (asking_tree old.state all) (tree_of new.state left (lines ++ line ∷ [])) (asked_lines_of new.state) (asks_more line a)

  -- the turns are spent
  pub asks_spent : Acts mid new (ask_tree mid.state) (Ok asked.Spent) (asked_of new.state) → Acts old new (asking_tree old.state all) (Ok Spent) (asked_lines_of new.state)
  asks_spent a =
      acts_done old new (asking_tree old.state all) Spent (asked_lines_of new.state)
      (comes_then old mid new (asking_tree old.state all) (λ units. bind (ask_tree mid.state units) (with_line (next_of left lines))) (λ units. Done (asked_lines_of new.state units Spent))
      so_far (comes_in {T = declared.Asked} mid new (ask_tree mid.state) (with_line (next_of left lines)) asked.Spent (asked_of new.state) a))

  -- an ask was cut off
  pub asks_stop : (e : End) → Acts {T = declared.Asked} mid new (ask_tree mid.state) (Err e) (asked_of new.state)
      → Acts {T = asked_lines.AskedLines} old new (asking_tree old.state all) (Err e) (asked_lines_of new.state)
  asks_stop e a =
      acts_after {T = asked_lines.AskedLines} old mid new (asking_tree old.state all) (λ units. bind (ask_tree mid.state units) (with_line (next_of left lines))) (Err e) (asked_lines_of new.state)
      so_far (acts_stop mid new (ask_tree mid.state) (with_line (next_of left lines)) e (asked_of new.state) (asked_lines_of new.state) a)

-- all were given
pub asks_all : (old new : Spot) (all left : ℕ) (lines : List (List ℕ)) → left ≡ 0 → Comes old new (asking_tree old.state all) (tree_of new.state left lines)
    → Acts old new (asking_tree old.state all) (Ok (All lines)) (asked_lines_of new.state)
asks_all old new all left lines none far =
    acts_done old new (asking_tree old.state all) (All lines) (asked_lines_of new.state)
    (comes_then old new new (asking_tree old.state all) (tree_of new.state left lines) (λ units. Done (asked_lines_of new.state units (All lines))) far
    (comes_same new (tree_of new.state left lines) (λ units. Done (asked_lines_of new.state units (All lines)))
    (λ units h. ap (λ (k : ℕ). tree_of new.state k lines units) none ∙ none_more new.state lines units)))

-- the rest of the state stays over two calls
pub stays : (a b c : State) → b ≡ record a { stack = b.stack; console = b.console; left = b.left } → c ≡ record b { stack = c.stack; console = c.console; left = c.left }
    → c ≡ record a { stack = c.stack; console = c.console; left = c.left }
stays a b c e f = f ∙ ap (λ (s : State). record s { stack = c.stack; console = c.console; left = c.left }) e
