use Rattle.std.proofs.Common.{◌≡◌, ℕ, ◌<◌, Some, rules, tests}
use Rattle.std.proofs.lemmas.Iterator.{first_from_Range}
use Rattle.std.specs.Bool.{MatchBool}
use Rattle.std.specs.Option.{is_none, is_some}
use Rattle.game.specs.declared.Owner.TheVariants.{Ours, Theirs}
use Rattle.hopper.specs.Boards.{owner_at, count_at}
use Rattle.solver.specs.Inner.Marks.{MarkedBelow, LeadsTo}
use Rattle.solver.proofs.Choosing.{decided, none_found, some_found, each_forces, some_forces}
use Rattle.solver.proofs.buffer.Entries.can_force.Goals as goal

pub returns-in-Ours : goal.returns-in-Ours
returns-in-Ours g c =
    let game = g.B.Board.game c.args.self.now.board.now in
    let p = c.args.place in
    let below = MarkedBelow c.args.self.now.entries.now c.args.round in
    let own : owner_at (game.at p) ≡ Some Ours = search rules in
    let P : ℕ → Type 0 = LeadsTo game below p in
    let o = c.find-elsewhere.result in
    let told : MatchBool (is_none o) ((m : ℕ) → m < count_at (game.at p) → P m) ((m : ℕ) × (m < count_at (game.at p)) × ¬ P m) =
    none_found P _ _ (count_at (game.at p)) c.move_count-count.ensures o
    (first_from_Range _ _ _ _ (λ m. ¬ P m) P c.find-elsewhere.ensures.ran
    (λ x q k. search (rules, tests))
    (λ x q k. (search rules, search (rules, tests)))) in
    let is : c.is_none.result ≡ is_none o = search rules in
    rw is (decided (is_none o) (each_forces game below p own (is_none o) told))

pub returns-in-Theirs : goal.returns-in-Theirs
returns-in-Theirs g c =
    let game = g.B.Board.game c.args.self.now.board.now in
    let p = c.args.place in
    let below = MarkedBelow c.args.self.now.entries.now c.args.round in
    let own : owner_at (game.at p) ≡ Some Theirs = search rules in
    let P : ℕ → Type 0 = LeadsTo game below p in
    let o = c.find-there.result in
    let told : MatchBool (is_some o) ((m : ℕ) × P m) ((m : ℕ) → m < count_at (game.at p) → ¬ P m) =
    some_found P _ _ (count_at (game.at p)) c.move_count-count.ensures o
    (first_from_Range _ _ _ _ P (λ m. ¬ P m) c.find-there.ensures.ran
    (λ x q k. search (rules, tests))
    (λ x q k. (search rules, search (rules, tests)))) in
    rw c.is_some.ensures (decided (is_some o) (some_forces game below p own (is_some o) told))
