-- What the questions of FORMAT come to, on the session's state.
use Rattle.std.specs.Prelude.{List}
use Rattle.cms_model.specs.Acts.{Act, Out, typed_line}
use Rattle.cms_model.specs.Slots.{Slot}
use Rattle.cms_line.specs.Messages.{message_text}
use Rattle.cms_line.specs.declared.message.Message.{Message}
use Rattle.cms_search.specs.Asks.{Asked}
use Rattle.cms_search.specs.Calls.{Meaning, course_of, machine_of}
use Rattle.cms_search.specs.Talks.{ask_tree}
use Rattle.cms_search.specs.declared.state.State.{State}
use Rattle.cms_access.specs.Format.{Labelling, Labelled, Ended, asking_label}
use Rattle.cms_access.specs.declared.questions.Label as declared
use Rattle.cms_access.specs.declared.questions.Label.TheVariants as label

-- a question is typed, and a line asked for
abbrev pub question_tree : State → Message → List Slot → Act Asked
question_tree s message units = Out (typed_line (message_text message)) (ask_tree s units)

-- the label is asked for, on the machine with these units
abbrev pub label_tree : State → List Slot → Act Labelling
label_tree s units = asking_label (machine_of s units)

-- a volume id, with the state that is left; or how the command ends
abbrev pub labelling_of : State → Meaning declared.Label Labelling
labelling_of s units (label.Given volid) = Labelled (machine_of s units) volid
labelling_of s units (label.Ended course) = Ended (course_of s units course)
