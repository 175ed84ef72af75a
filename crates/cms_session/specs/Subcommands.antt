-- A text that a procedure sends to an extension, by &SUBCOMMAND or as &PRESUME says.
use Rattle.std.specs.Prelude.{ℕ, List, map, Option, Some, None}
use Rattle.cms_ebcdic.specs.CodePage.{upper_of}
use Rattle.cms_model.specs.Acts.{Act, bind}
use Rattle.cms_model.specs.Objects.{Sub}
use Rattle.cms_line.specs.declared.message.Message.TheVariants.{M122}
use Rattle.cms_search.specs.Machine.{refusal}
use Rattle.cms_ext.specs.Extensions.{Desk, Ended, run_extension}
use Rattle.cms_session.specs.Lines.{Issued, came, extension_named}
use Rattle.cms_session.specs.Nucleus.{leaving_to, none_there}

-- the extension in the word's place is told the text; where there is none: 122
abbrev pub told_or_refused : Desk → List ℕ → List ℕ → Option ℕ → Act Ended
told_or_refused d word text (Some place) = run_extension place d (Sub text)
told_or_refused d word text None = leaving_to d.objects (refusal d.machine (M122 word) none_there)

-- the word is in capital letters
abbrev pub told : Desk → List ℕ → List ℕ → Act Ended
told d word text = told_or_refused d word text (extension_named d.objects word)

-- the word may be in small letters
abbrev pub sent : Desk → List ℕ → List ℕ → Act Ended
sent d word text = told d (map upper_of word) text

-- what a sent text comes to
abbrev pub sent_line : Desk → List ℕ → List ℕ → Act Issued
sent_line d word text = bind (sent d word text) came
