use Rattle.std.proofs.Common.{◌≡◌, ℕ, List, Option, Some, refl, sym, ap, arith}
use Rattle.std.specs.Option.{option_map}
use Rattle.line_protocol.specs.Reading.{part_at}
use Rattle.line_protocol.proofs.EachWord.{IsReadTo, read-begins, read-goes_on, read-stops, read-smaller}
use Rattle.line_protocol.proofs.step_line.read_each.Goals as goal

pub loop-rest-init : goal.loop-rest-init
loop-rest-init g c = read-begins g.T.Word.at (option_map (λ t. t.now) c.args.text) _ c.new-list.result.items c.new-list.ensures.items

pub returns-in_err-still : goal.returns-in_err-still
returns-in_err-still g c =
    let more = c.in-Some.more.now in
    let so_far : IsReadTo g.T.Word.at (option_map (λ t. t.now) c.args.text) (Some more) c.loop-rest.kept c.loop-rest.list.items = rw c.in-Some.is at c.loop-rest.invariant in
    rw c.from_residual.ensures (read-stops g.T.Word.at _ more (part_at 32 more).0 (part_at 32 more).1 _ _ so_far refl (sym c.in_err-still.ensures))

-- the first word, and what follows it
parted : (text : List ℕ) (after : Option (List ℕ)) → after ≡ (part_at 32 text).1 → ((part_at 32 text).0, after) ≡ part_at 32 text
parted text after e = ap (λ (t : Option (List ℕ)). ((part_at 32 text).0, t)) e

pub loop-rest-smaller : goal.loop-rest-smaller
loop-rest-smaller g c =
    let more = c.in-Some.more.now in
    rw c.in-Some.is (let le = read-smaller more (part_at 32 more).0 _ (parted more _ c.in_ok-still.ensures.2) in omega arith)

pub loop-rest-preserved : goal.loop-rest-preserved
loop-rest-preserved g c =
    let more = c.in-Some.more.now in
    let word = c.in_ok-still.ensures in
    let so_far : IsReadTo g.T.Word.at (option_map (λ t. t.now) c.args.text) (Some more) c.loop-rest.kept c.loop-rest.list.items = rw c.in-Some.is at c.loop-rest.invariant in
    read-goes_on g.T.Word.at _ more (part_at 32 more).0 _ _ _ _ _ word.0 so_far (parted more _ word.2) word.1 word.3
