use Rattle.std.proofs.Common.{Some, None, ap, ◌∙◌}
use Rattle.std.specs.Prelude.{option_map}
use Rattle.memchr.proofs.lemmas.ValueLemmas.{FindsNeedle-value}
use Rattle.dkg_words.specs.Before.{counted_up}
use Rattle.dkg_words.proofs.own.find.Goals as goal

pub returns-in-Some : goal.returns-in-Some
returns-in-Some c = ap Some c.counted.ensures ∙ ap (option_map counted_up) (FindsNeedle-value c.args.text.now c.args.words.now (Some c.in-Some.feed) c.in-Some.ensures)

pub returns-in-None : goal.returns-in-None
returns-in-None c = ap (option_map counted_up) (FindsNeedle-value c.args.text.now c.args.words.now None c.in-None.ensures)
