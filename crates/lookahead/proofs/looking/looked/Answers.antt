use Rattle.std.proofs.Common.{rules}
use Rattle.linefile.specs.Held.{file_of, line_held}
use Rattle.lineformat.proofs.Formed.{file_formed}
use Rattle.lookahead.proofs.Prevailing.{tells_who_prevails}
use Rattle.lookahead.proofs.looking.looked.Goals as goal

pub returns-clause-prevails : goal.returns-clause-prevails
returns-clause-prevails c =
    let line = c.args.line.now in
    tells_who_prevails (line_held line) (file_formed (file_of line) line.accepted) c.args.place c.args.fill c.args.k c.requires c.holds.result (search rules)
