use Rattle.std.proofs.Common.{rules, None}
use Rattle.std.proofs.lemmas.List.Edits.{map_over_more}
use Rattle.ck_sessions.specs.Rows.{with_search}
use Rattle.ck_sessions.proofs.rows.end_searches.Goals as goal

pub loop-row-preserved : goal.loop-row-preserved
loop-row-preserved c = search (rules, map_over_more (with_search None))
