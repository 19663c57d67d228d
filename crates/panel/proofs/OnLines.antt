-- From calls on a line and its own vessel to calls on the bytes of its file.
use Rattle.std.proofs.Common.{◌≡◌, ℕ, List, is_ok, Ok, Result, sym, ap, ◌∙◌, subst}
use Rattle.std.proofs.lemmas.Bool.{false≢true}
use Rattle.game.specs.Game.{Game}
use Rattle.game.specs.Vessel.{Hopper}
use Rattle.hopper.specs.declared.Fault.{Fault}
use Rattle.hopper.specs.Refusing.{verdict, if_accepted}
use Rattle.lineformat.specs.Checks.{read_checks}
use Rattle.lineformat.specs.Format.{Line, line_of}
use Rattle.lineformat.specs.Games.{game_of, hopper_of}
use Rattle.linefile.specs.declared.FileLine.{FileLine}
use Rattle.linefile.specs.Held.{file_of, line_held}
use Rattle.shift.specs.declared.Shift.{Shift}
use Rattle.panel.specs.declared.shifts.ShiftNumbers.{ShiftNumbers}
use Rattle.panel.specs.Told.{OnFile}
use Rattle.panel.specs.Shifts.{shift_named, shift_numbers, OnShift}

-- b is the line that reading made of the file
abbrev pub ReadAs : List ℕ → FileLine → Type 0
ReadAs file b = (verdict (read_checks file) ≡ Ok tt) × (file_of b ≡ file)

-- what holds of the line that was read is the answer on its file
pub on_read : {A : Type 0} (P : Line → Result A Fault → Type 0) (Q : Type 0) (file : List ℕ) (b : FileLine) (r : Result A Fault)
    → ReadAs file b → P (line_held b) r → OnFile file P Q r
on_read P Q file b r read p = record {
  refused = λ f is. absurd (false≢true (sym (ap is_ok is) ∙ ap is_ok read.0));
  read = λ _. subst (λ (bs : List ℕ). P (line_of bs) r) read.1 p;
}

-- a call on the shift that numbers name, over a line that was read and its own hopper, and the numbers that are kept of it
pub shift_on_file : {A : Type 0} (P : Game → Hopper → Shift → Shift → Result A Fault → Type 0)
    (file : List ℕ) (b : FileLine) (v : Hopper) (old new : ShiftNumbers) (s s' : Shift) (answer r : Result A Fault)
    → ReadAs file b → v ≡ hopper_of (line_held b) → s ≡ shift_named old → P (game_of (line_held b)) v s s' answer
    → r ≡ answer → new ≡ if_accepted answer (shift_numbers s') old
    → OnFile file (λ l. OnShift (P (game_of l) (hopper_of l)) old new) (new ≡ old) r
shift_on_file P file b v old new s s' answer r read own named p same kept =
    let own_p : P (game_of (line_held b)) (hopper_of (line_held b)) s s' answer = subst (λ (u : Hopper). P (game_of (line_held b)) u s s' answer) own p in
    let of_old : P (game_of (line_held b)) (hopper_of (line_held b)) (shift_named old) s' answer =
    subst (λ (x : Shift). P (game_of (line_held b)) (hopper_of (line_held b)) x s' answer) named own_p in
    let both : OnShift (P (game_of (line_held b)) (hopper_of (line_held b))) old new r =
    subst (λ (x : Result _ Fault). OnShift (P (game_of (line_held b)) (hopper_of (line_held b))) old new x) (sym same) (s', of_old, kept) in
    on_read (λ l. OnShift (P (game_of l) (hopper_of l)) old new) (new ≡ old) file b r read both
