-- The site's call refused: the record, the reply and their number stay.
use Rattle.std.proofs.Common.{rules}
use Rattle.site.specs.Calls.{site_reply}
use Rattle.bench_memory.proofs.PartLaws.{own_is}
use Rattle.library_decks.specs.AllDecks.{deck_at}
use Rattle.library_decks.proofs.message_at.Goals as goal

pub returns-in_err-replied : goal.returns-in_err-replied
returns-in_err-replied c =
    let which = c.args.message.site in
    let words = c.site_words in
    record {
      replied = site_reply (deck_at c.args.decks.now which) c.receive.result;
      says =
          rw (
            c.site_at-numbers.ensures,
            own_is c.requires.fits which c.requires.known words.result words.ensures,
          )
          at c.receive.ensures;
      refusal = search rules;
      decks_are = search rules;
      reply_is = search rules;
    }
