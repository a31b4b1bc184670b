use Rattle.std.proofs.Common.{◌<◌, ℕ, List, [], Bor, length, map, ◌∙◌}
use Rattle.std.proofs.Math.ListN.{get_or-map, length-map}
use Rattle.command_line.proofs.TenantNames.{bad_word, next_names, more_names}
use Rattle.command_line.proofs.options.read_names.Goals as goal

pub returns-in_default-clause-none : goal.returns-in_default-clause-none
returns-in_default-clause-none c =
    let words = map (λ (word : Bor (List ℕ)). word.now) c.args.words.now in
    let i = c.loop-word.word-index in
    let within : i < length words = rw length-map c.loop-word-test.true in
    bad_word words i _ c.deref.result.now within (get_or-map (λ (word : Bor (List ℕ)). word.now) c.args.words.now i (record { ref_ptr = (0, 0); now = [] }))
    (c.deref.ensures.value ∙ c.loop-word.invariant.so_far) c.in_default.ensures.none

pub loop-word-preserved : goal.loop-word-preserved
loop-word-preserved c =
    let words = map (λ (word : Bor (List ℕ)). word.now) c.args.words.now in
    let i = c.loop-word.word-index in
    let within : i < length words = rw length-map c.loop-word-test.true in
    let name = c.in-Some.ensures.name in
    record {
      so_far = next_names words i _ c.in-Some.name c.loop-word.names.items c.push.new.self.items within
          (get_or-map (λ (word : Bor (List ℕ)). word.now) c.args.words.now i (record { ref_ptr = (0, 0); now = [] })) name.0 c.loop-word.invariant.so_far c.in_ok-push.ensures.items;
      names = more_names c.loop-word.names.items c.deref.result.now c.push.new.self.items _ c.in-Some.name name.0 c.deref.ensures.value c.in_ok-push.ensures.items c.loop-word.invariant.names name.1 name.2;
    }
