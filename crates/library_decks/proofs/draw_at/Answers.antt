-- The site's call refused: the deck's part of the memory is put back as it is.
use Rattle.std.proofs.Common.{rules}
use Rattle.site.specs.Calls.{observation}
use Rattle.bench_memory.proofs.PartLaws.{own_is}
use Rattle.library_decks.specs.AllDecks.{deck_at}
use Rattle.library_decks.proofs.Named.{put_back}
use Rattle.library_decks.proofs.draw_at.Goals as goal

pub returns-in_err-observed : goal.returns-in_err-observed
returns-in_err-observed c =
    let which = c.args.draw.site in
    let words = c.site_words in
    record {
      part = c.observe.new.memory;
      observed = observation (deck_at c.args.decks.now which) c.observe.result;
      says =
          rw (
            c.site_at-numbers.ensures,
            own_is c.requires.fits which c.requires.known words.result words.ensures,
          )
          at c.observe.ensures;
      refusal = search rules;
      decks_are = search rules;
      memory_is =
          put_back c.args.settings c.args.memory.now _ which words.result
          words.ensures;
      messages_are = search rules;
    }
