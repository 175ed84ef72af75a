use Rattle.std.proofs.Common.{◌≡◌, List, Result, codes}
use Rattle.clap.specs.Words.{Row, Text}
use Rattle.mini_words.specs.Commands.{rows_in}
use Rattle.mini_words.specs.Readings.{IsAnswer}
use Rattle.mini_words.specs.Requests.{asked_by, list_of, info_of, get_of, put_of, erase_of, rename_of, make_of, dump_of}
use Rattle.mini_words.specs.declared.fault.WordFault.{WordFault}
use Rattle.mini_words.specs.declared.request.Request.{Request}
use Rattle.mini_words.proofs.command_words.asked_by.Goals as goal

list_is : (result : Result Request WordFault) (command : Text) (rows : List Row) → command ≡ codes "list" → IsAnswer result (list_of rows) → IsAnswer result (asked_by command rows)
unfolding asked_by
list_is result command rows is answer = rw is answer

info_is : (result : Result Request WordFault) (command : Text) (rows : List Row) → command ≡ codes "info" → IsAnswer result (info_of rows) → IsAnswer result (asked_by command rows)
unfolding asked_by
info_is result command rows is answer = rw is answer

get_is : (result : Result Request WordFault) (command : Text) (rows : List Row) → command ≡ codes "get" → IsAnswer result (get_of rows) → IsAnswer result (asked_by command rows)
unfolding asked_by
get_is result command rows is answer = rw is answer

put_is : (result : Result Request WordFault) (command : Text) (rows : List Row) → command ≡ codes "put" → IsAnswer result (put_of rows) → IsAnswer result (asked_by command rows)
unfolding asked_by
put_is result command rows is answer = rw is answer

erase_is : (result : Result Request WordFault) (command : Text) (rows : List Row) → command ≡ codes "erase" → IsAnswer result (erase_of rows) → IsAnswer result (asked_by command rows)
unfolding asked_by
erase_is result command rows is answer = rw is answer

rename_is : (result : Result Request WordFault) (command : Text) (rows : List Row) → command ≡ codes "rename" → IsAnswer result (rename_of rows) → IsAnswer result (asked_by command rows)
unfolding asked_by
rename_is result command rows is answer = rw is answer

make_is : (result : Result Request WordFault) (command : Text) (rows : List Row) → command ≡ codes "make" → IsAnswer result (make_of rows) → IsAnswer result (asked_by command rows)
unfolding asked_by
make_is result command rows is answer = rw is answer

dump_is : (result : Result Request WordFault) (command : Text) (rows : List Row) → command ≡ codes "dump" → IsAnswer result (dump_of rows) → IsAnswer result (asked_by command rows)
unfolding asked_by
dump_is result command rows is answer = rw is answer

pub returns-in-list-clause-answer : goal.returns-in-list-clause-answer
returns-in-list-clause-answer c = list_is c.list.result c.args.command.now (rows_in c.args.matches.now) c.in-list.is c.list.ensures.answer

pub returns-in-list-clause-within : goal.returns-in-list-clause-within
returns-in-list-clause-within c = c.list.ensures.within

pub returns-in-info-clause-answer : goal.returns-in-info-clause-answer
returns-in-info-clause-answer c = info_is c.info.result c.args.command.now (rows_in c.args.matches.now) c.in-info.is c.info.ensures.answer

pub returns-in-info-clause-within : goal.returns-in-info-clause-within
returns-in-info-clause-within c = c.info.ensures.within

pub returns-in-get-clause-answer : goal.returns-in-get-clause-answer
returns-in-get-clause-answer c = get_is c.get.result c.args.command.now (rows_in c.args.matches.now) c.in-get.is c.get.ensures.answer

pub returns-in-get-clause-within : goal.returns-in-get-clause-within
returns-in-get-clause-within c = c.get.ensures.within

pub returns-in-put-clause-answer : goal.returns-in-put-clause-answer
returns-in-put-clause-answer c = put_is c.put.result c.args.command.now (rows_in c.args.matches.now) c.in-put.is c.put.ensures.answer

pub returns-in-put-clause-within : goal.returns-in-put-clause-within
returns-in-put-clause-within c = c.put.ensures.within

pub returns-in-erase-clause-answer : goal.returns-in-erase-clause-answer
returns-in-erase-clause-answer c = erase_is c.erase.result c.args.command.now (rows_in c.args.matches.now) c.in-erase.is c.erase.ensures.answer

pub returns-in-erase-clause-within : goal.returns-in-erase-clause-within
returns-in-erase-clause-within c = c.erase.ensures.within

pub returns-in-rename-clause-answer : goal.returns-in-rename-clause-answer
returns-in-rename-clause-answer c = rename_is c.rename.result c.args.command.now (rows_in c.args.matches.now) c.in-rename.is c.rename.ensures.answer

pub returns-in-rename-clause-within : goal.returns-in-rename-clause-within
returns-in-rename-clause-within c = c.rename.ensures.within

pub returns-in-make-clause-answer : goal.returns-in-make-clause-answer
returns-in-make-clause-answer c = make_is c.make.result c.args.command.now (rows_in c.args.matches.now) c.in-make.is c.make.ensures.answer

pub returns-in-make-clause-within : goal.returns-in-make-clause-within
returns-in-make-clause-within c = c.make.ensures.within

pub returns-in-dump-clause-answer : goal.returns-in-dump-clause-answer
returns-in-dump-clause-answer c = dump_is c.dump.result c.args.command.now (rows_in c.args.matches.now) c.in-dump.is c.dump.ensures.answer

pub returns-in-dump-clause-within : goal.returns-in-dump-clause-within
returns-in-dump-clause-within c = c.dump.ensures.within
