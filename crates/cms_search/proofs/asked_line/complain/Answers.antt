use Rattle.cms_search.proofs.Talks.{silent}
use Rattle.cms_search.proofs.asked_line.complain.Goals as goal

pub returns-in-Rest : goal.returns-in-Rest
returns-in-Rest g c = let is = c.in-Rest.is in rw is (silent _ tt)

pub returns-in-Bad : goal.returns-in-Bad
returns-in-Bad g c = let is = c.in-Bad.is in rw is c.say_message.ensures

pub returns-in-Long : goal.returns-in-Long
returns-in-Long g c = let is = c.in-Long.is in rw is c.say_message-in-Long.ensures
