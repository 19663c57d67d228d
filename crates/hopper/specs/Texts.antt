-- How a fault is printed.
use Rattle.std.specs.Prelude.{ℕ, List, ◌++◌, codes, decimal}
use Rattle.hopper.specs.declared.Fault.{Fault}
use Rattle.hopper.specs.Faults.{refusal_number, layer_number}

-- `refused`, the number, the layer and the spot, with single blanks between them
abbrev pub refused_text : Fault → List ℕ
refused_text f =
    codes "refused " ++ (decimal (refusal_number f.refusal) ++ (codes " " ++ (decimal (layer_number f.layer) ++ (codes " " ++ decimal f.spot))))
