use Rattle.checker.proofs.Answers.{few-in}
use Rattle.list_file.proofs.Files.{front-as, text_in}
use borrow.Author.Rules.{rules}
use Rattle.list_file.proofs.put_reply.Goals as goal

pub write_listing-requires : goal.write_listing-requires
write_listing-requires c = (search few-in, search rules)

pub returns-in-Ok : goal.returns-in-Ok
returns-in-Ok c = front-as _ _ _ _ _ c.write_listing.ensures
    (text_in c.args.store.now.names c.args.store.now.facts c.args.words.now _ _ c.in-Ok.is)

pub returns-in-Err : goal.returns-in-Err
returns-in-Err c = front-as _ _ _ _ _ c.write_refusal.ensures
    (text_in c.args.store.now.names c.args.store.now.facts c.args.words.now _ _ c.in-Err.is)
