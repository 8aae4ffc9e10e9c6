use Rattle.std.proofs.Common.{◌++◌, take, ap, ◌∙◌}
use Rattle.std.proofs.lemmas.List.{take-append-drop, take_rest}
use Rattle.logs.specs.Logs.{first_lines}
use Rattle.logs.proofs.log.Log.take_lines.Goals as goal

pub returns-clause-text : goal.returns-clause-text
returns-clause-text c = c.end_of_lines-end.ensures.front ∙ ap (first_lines c.args.count) c.rest-all.ensures

pub returns-clause-rest : goal.returns-clause-rest
returns-clause-rest c =
    let all = c.rest-all.result.now in
    let end = c.end_of_lines-end.result in
    rw c.of-self.ensures (ap (λ u. take end all ++ u) (take_rest all end) ∙ take-append-drop end all ∙ c.rest-all.ensures)
