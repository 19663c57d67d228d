use Rattle.std.proofs.Common.{ℕ, [], ◌∷◌, length, Ok, sym, ap, ◌∙◌}
use Rattle.hopper.specs.Refusing.{verdict}
use Rattle.hopper.proofs.Refusing.{second_decides, accept, decline, handed_on}
use Rattle.lineformat.specs.Format.{encode}
use Rattle.lineformat.specs.Checks.{line_checks, room_check, write_checks}
use Rattle.linefile.specs.Tabled.{line_in}
use Rattle.linefile.proofs.LineTables.write.Goals as goal

pub returns-in_err-check_room-clause-answer : goal.returns-in_err-check_room-clause-answer
unfolding write_checks
returns-in_err-check_room-clause-answer c =
    let l = line_in c.args.self.now in
    let room : ℕ = length c.args.out.now in
    let f = c.in_err-check_room.field-0.0 in
    let a = c.in_ok-checked.ensures in
    handed_on c.from_residual-in_err-check_room.result f c.from_residual-in_err-check_room.ensures.1
    ∙ sym (decline (room_check room (length (encode l)) ∷ []) (length (encode l)) f (c.in_err-check_room.ensures ∙ ap (λ x. verdict (room_check room (length (encode x)) ∷ [])) a.1))
    ∙ second_decides (line_checks l) (room_check room (length (encode l)) ∷ []) (length (encode l)) tt (sym a.0)

pub returns-clause-answer : goal.returns-clause-answer
unfolding write_checks
returns-clause-answer c =
    let l = line_in c.args.self.now in
    let room : ℕ = length c.args.out.now in
    let a = c.in_ok-checked.ensures in
    ap Ok (c.in_ok-checked.checked.sized.size_is ∙ ap (λ x. length (encode x)) a.1)
    ∙ sym (accept (room_check room (length (encode l)) ∷ []) (length (encode l)) c.in_ok-check_room.field-0 (c.in_ok-check_room.ensures ∙ ap (λ x. verdict (room_check room (length (encode x)) ∷ [])) a.1))
    ∙ second_decides (line_checks l) (room_check room (length (encode l)) ∷ []) (length (encode l)) tt (sym a.0)
