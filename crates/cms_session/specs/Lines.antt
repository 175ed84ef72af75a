-- What a line comes to: an extension answers it, a command is run, or a procedure begins.
use Rattle.std.specs.Prelude.{ℕ, pos, negsuc, if◌then◌else◌, List, [], ◌∷◌, Option, Some, None}
use Rattle.std.specs.Option.{option_and_then}
use Rattle.cms_model.specs.Acts.{Act, Done, Out, bind, typed_line}
use Rattle.cms_model.specs.Objects.{Object, Start}
use Rattle.cms_line.specs.Messages.{message_text}
use Rattle.cms_line.specs.Tokens.{tokens_of}
use Rattle.cms_line.specs.declared.message.Message.TheVariants.{M001}
use Rattle.cms_line.specs.declared.token.Token.{Token}
use Rattle.cms_names.specs.Names.{part_of}
use Rattle.cms_operands.specs.Operands.{given}
use Rattle.cms_search.specs.Machine.{Machine, Course}
use Rattle.cms_search.specs.Machine as course
use Rattle.cms_access.specs.Access.{access}
use Rattle.cms_access.specs.Century.{century}
use Rattle.cms_access.specs.Format.{format}
use Rattle.cms_access.specs.Query.{query}
use Rattle.cms_access.specs.Release.{release}
use Rattle.cms_cards.specs.Cards.{Dealt, cards}
use Rattle.cms_cards.specs.PunchedCards.{Decks}
use Rattle.cms_copyfile.specs.Copyfile.{copyfile}
use Rattle.cms_fileops.specs.Erase.{erase}
use Rattle.cms_fileops.specs.Rename.{rename}
use Rattle.cms_fileops.specs.State.{state}
use Rattle.cms_fileops.specs.TypeCommand.{type_command}
use Rattle.cms_listfile.specs.Listfile.{listfile}
use Rattle.cms_exec.specs.Exec.{Starting, HasBegun, IsRefused, call_command, exec_command}
use Rattle.cms_exec.specs.Searches.{called_by, valid_name}
use Rattle.cms_execio.specs.Execio.{execio}
use Rattle.cms_ext.specs.Extensions.{Desk, Ended, Went, desk, run_extension}
use Rattle.cms_ext.specs.Objects.{place_of, words_of}
use Rattle.exec2_run.specs.State.{Exec}
use Rattle.exec2_run.specs.declared.exec.FileName.{FileName}
use Rattle.cms_session.specs.Commands.{is_comment, request_of}
use Rattle.cms_session.specs.Decks.{leaving_decks}
use Rattle.cms_session.specs.Nucleus.{ended_with, nucxdrop, nucxmap}
use Rattle.cms_session.specs.declared.command.Command.{Command}
use Rattle.cms_session.specs.declared.command.Command.TheVariants as command
use Rattle.cms_session.specs.declared.command.Request.{Request}
use Rattle.cms_session.specs.declared.command.Request.TheVariants as ask

-- ---- commands

-- no command has this word
abbrev pub unknown : Machine → List ℕ → Act Course
unknown s word = Out (typed_line (message_text (M001 word))) (Done (course.Went s (negsuc 2)))

-- the command that a line with these words asks for, the first of which is this
abbrev pub run_command : Machine → List ℕ → List Token → List ℕ → Command → Act Course
run_command s line words word command.Access = access s words
run_command s line words word command.Release = release s words
run_command s line words word command.Format = format s words
run_command s line words word command.Century = century s words
run_command s line words word command.Query = query s words
run_command s line words word command.Listfile = listfile s words
run_command s line words word command.Rename = rename s words
run_command s line words word command.Erase = erase s words
run_command s line words word command.TypeFile = type_command s words
run_command s line words word command.State = state s words
run_command s line words word command.Copyfile = copyfile s words
run_command s line words word command.Execio = execio s line words
run_command s line words word command.Unknown = unknown s word

-- ---- what a line comes to

-- its extension or its command has ended so, or a procedure has begun
pub data Issued : Type 0 where
  Came : Ended → Issued
  Begins : Desk → Exec → Issued

-- nothing was done, with code 0
abbrev pub nothing_done : Desk → Act Issued
nothing_done d = Done (Came (Went d (pos 0)))

-- a command on cards has ended, which leaves the objects and has left these decks
abbrev pub dealt_with : List Object → Dealt → Act (Issued × Decks)
dealt_with objects x = Done (Came (ended_with objects x.course), x.decks)

-- what asks or drops objects has ended
abbrev pub came : Ended → Act Issued
came ended = Done (Came ended)

-- a command has ended, which leaves the objects
abbrev pub came_with : List Object → Course → Act Issued
came_with objects c = Done (Came (ended_with objects c))

-- a procedure was called
abbrev pub started : List Object → Starting → Act Issued
started objects (HasBegun s exec) = Done (Begins (desk s objects) exec)
started objects (IsRefused c) = came_with objects c

-- what a line with these words asks for, where so many procedures run; all but the commands on cards leave the decks
abbrev pub request : Desk → Decks → ℕ → List ℕ → List Token → List ℕ → Request → Act (Issued × Decks)
request d decks running line words word ask.Exec =
    leaving_decks decks (bind (exec_command running d.machine line words) (started d.objects))
request d decks running line words word ask.Nucxdrop = leaving_decks decks (bind (nucxdrop d words) came)
request d decks running line words word ask.Nucxmap =
    leaving_decks decks (bind (nucxmap d.machine (words_of d.objects) words) (came_with d.objects))
request d decks running line words word (ask.Cards command) = bind (cards d.machine decks words command) (dealt_with d.objects)
request d decks running line words word (ask.Command command) =
    leaving_decks decks (bind (run_command d.machine line words word command) (came_with d.objects))

-- the same by the first of the words; without a word nothing is done
abbrev pub requested : Desk → Decks → ℕ → List ℕ → List Token → Act (Issued × Decks)
requested d decks running line [] = leaving_decks decks (nothing_done d)
requested d decks running line (first ∷ words) = request d decks running line (first ∷ words) first.text (request_of first.text)

-- the place of the extension of a word, which is a valid name then
abbrev pub extension_named : List Object → List ℕ → Option ℕ
extension_named objects word = option_and_then (λ name. place_of name objects) (valid_name (part_of word))

-- the place of the extension whose word is the first
abbrev pub extension_of : List Object → List Token → Option ℕ
extension_of objects words = option_and_then (λ word. extension_named objects word) (given words 0)

-- an extension comes before a command of its word: it answers the line, which it is told whole
abbrev pub extended_or_requested : Desk → Decks → ℕ → List ℕ → List Token → Option ℕ → Act (Issued × Decks)
extended_or_requested d decks running line words (Some place) = leaving_decks decks (bind (run_extension place d (Start line)) came)
extended_or_requested d decks running line words None = requested d decks running line words

-- so it is for the extension of the first word, if there is one
abbrev pub obeyed : Desk → Decks → ℕ → List ℕ → List Token → Act (Issued × Decks)
obeyed d decks running line words = extended_or_requested d decks running line words (extension_of d.objects words)

-- a line that a procedure issues; no procedure begins by its name alone
abbrev pub issued : Desk → Decks → ℕ → List ℕ → Act (Issued × Decks)
issued d decks running line =
    if is_comment line then leaving_decks decks (nothing_done d) else obeyed d decks running line (tokens_of line)

-- a line that CMS took: the procedure that its first word names comes before an extension
abbrev pub called_or_obeyed : Desk → Decks → ℕ → List ℕ → List Token → Option FileName → Act (Issued × Decks)
called_or_obeyed d decks running line words (Some f) =
    leaving_decks decks (bind (call_command running d.machine line words f) (started d.objects))
called_or_obeyed d decks running line words None = obeyed d decks running line words

-- so it is for the procedure that these words call, if there is one
abbrev pub taken_up : Desk → Decks → ℕ → List ℕ → List Token → Act (Issued × Decks)
taken_up d decks running line words = called_or_obeyed d decks running line words (called_by d.machine words)
