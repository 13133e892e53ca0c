use Rattle.std.proofs.Common.{◌∙◌, sym, ap, subst, List, Ok, Err}
use Rattle.std.specs.Prelude.{codes}
use Rattle.std.proofs.lemmas.Result.{err_from_is_err_and}
use Rattle.dkg_text.specs.declared.script.PlayerLine.{PlayerLine}
use Rattle.dkg_reading.specs.Grammar.{players_line_at}
use Rattle.dkg_reading.specs.Lines.{ReadsIf, begins}
use Rattle.dkg_reading.proofs.ReadOn.{ends_if, more_if, refused_if}
use Rattle.dkg_reading.proofs.config_lines.read_players.Goals as goal

pub players-preserved : goal.players-preserved
players-preserved c =
    let text = c.players.lines.rest.now in
    let rest = c.read_players_after.new.lines.rest.now in
    let reads = subst (λ (d : List PlayerLine). ReadsIf (begins (codes "players")) (players_line_at d) text (Ok c.in_ok-line.field-0) rest) c.deref.ensures.value c.in_ok-line.ensures.reads in
    record { at = rw c.in_ok-push.ensures.items (more_if (begins (codes "players")) players_line_at c.players.players.items text rest c.in_ok-line.field-0 c.in-Some.line _ c.players.invariant.at c.in-Some.is reads c.in_ok-line.ensures.on) }

pub returns : goal.returns
returns c =
    let text = c.players.lines.rest.now in
    let rest = c.read_players_after.new.lines.rest.now in
    let reads = subst (λ (d : List PlayerLine). ReadsIf (begins (codes "players")) (players_line_at d) text (Ok c.in_ok-line.field-0) rest) c.deref.ensures.value c.in_ok-line.ensures.reads in
    ends_if (begins (codes "players")) players_line_at c.players.players.items text rest c.in_ok-line.field-0 _ c.players.invariant.at c.in_default.is reads ∙ ap (λ xs. Ok (xs, rest)) (sym c.new.ensures)

pub returns-in_err-line : goal.returns-in_err-line
returns-in_err-line c =
    let p = err_from_is_err_and c.from_residual.result c.from_residual.ensures.1 in
    let text = c.players.lines.rest.now in
    let rest = c.read_players_after.new.lines.rest.now in
    let reads = subst (λ (d : List PlayerLine). ReadsIf (begins (codes "players")) (players_line_at d) text (Err c.in_err-line.field-0.0) rest) c.deref.ensures.value c.in_err-line.ensures.reads in
    let r = refused_if (begins (codes "players")) players_line_at c.players.players.items text rest _ c.in_err-line.field-0.0 c.players.invariant.at reads in
    rw (p.1, p.2) r
