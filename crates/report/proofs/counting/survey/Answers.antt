use Rattle.std.proofs.Common.{◌∙◌}
use Rattle.report.proofs.Laws.{survey_pattern}
use Rattle.report.proofs.counting.survey.Goals as goal

pub returns-clause-pattern : goal.returns-clause-pattern
returns-clause-pattern c = λ p w. c.tally_text.ensures ∙ survey_pattern c.args.text.now p w
