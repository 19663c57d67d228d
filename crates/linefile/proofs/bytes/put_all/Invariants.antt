use Rattle.std.proofs.Common.{◌≡◌, ◌+◌, ◌*◌, ◌++◌, take, drop}
use Rattle.std.specs.List.{flat_map}
use Rattle.lineformat.specs.Limits.{record_size}
use Rattle.linefile.proofs.bytes.put_all.Given as goal

-- the first i records are put
abbrev pub invariant-loop-i : goal.invariant-loop-i
invariant-loop-i g l =
    l.out ≡ take l.from l.initial.out ++ (flat_map g.R.Record.bytes (take l.i l.table) ++ drop (l.from + l.i * record_size) l.initial.out)
