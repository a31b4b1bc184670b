-- What a seat of a load began: for `run_rounds`.
use Rattle.std.proofs.Common.{◌≡◌, ◌⊎◌, ◌+◌, ℕ, true, false, List, [], ◌∷◌, ◌++◌, map, Option, Some, take, refl, sym, ap, subst, inl, inr, ◌∙◌, add-one, arith}
use Rattle.std.proofs.lemmas.List.{append-nil, take-map}
use Rattle.std.proofs.lemmas.List.Elements.{filter_map-append}
use Rattle.std.proofs.lemmas.List.FromFn.{map-range_with_len_more}
use Rattle.std.specs.Prelude.{min}
use Rattle.std.specs.List.{filter_map, list_all}
use Rattle.stamps.specs.declared.record.Item.{Item}
use Rattle.plain_store.specs.declared.step.Act.{Act}
use Rattle.plain_store.specs.declared.step.Act.TheVariants.{Put as PutAct, Get as GetAct, Find as FindAct}
use Rattle.plain_store.specs.declared.answer.Answer.{Answer}
use Rattle.entry_list.specs.declared.kinds.Entry.{Entry}
use Rattle.entry_list.specs.declared.kinds.Entry.TheVariants.{Began, Took, Answered}
use Rattle.hub.specs.Operations.{IsOperation}
use Rattle.hub.specs.Seats.{Follows, IsEntered, SeatView, is_inside, is_unrecorded}
use Rattle.load.specs.declared.mix.RoundKind.{RoundKind}
use Rattle.load.specs.declared.mix.RoundKind.TheVariants.{Put, Get, Find}
use Rattle.load.specs.declared.mix.DrawnRound.{DrawnRound}
use Rattle.load.specs.Rounds.{act_in, act_of_kind, act_of_round, acts_drawn, four_keys, item_of_round, next_state, round_from, state_after, tag_of}

-- ---- what an operation enters

-- an operation that has begun begins nothing more
begins_no_more : (more : List Entry) → list_all is_inside more ≡ true → filter_map act_in more ≡ []
begins_no_more [] h = refl
begins_no_more (Began act ∷ more) h = absurd (let bad : false ≡ true = h in cc)
begins_no_more (Took number partition place reply ∷ more) h = begins_no_more more h
begins_no_more (Answered answer ∷ more) h = begins_no_more more h

began : (old new : List Entry) (act : Act) (told : Option Answer) → Follows (old ++ Began act ∷ []) told new → filter_map act_in new ≡ filter_map act_in old ++ act ∷ []
began old new act told f =
    ap (filter_map act_in) f.is
    ∙ filter_map-append act_in (old ++ Began act ∷ []) f.more
    ∙ ap (λ (l : List Act). filter_map act_in (old ++ Began act ∷ []) ++ l) (begins_no_more f.more f.inside)
    ∙ append-nil (filter_map act_in (old ++ Began act ∷ []))
    ∙ filter_map-append act_in old (Began act ∷ [])

-- an operation whose answer a transcript has was begun
entered_began : (act : Act) (old new : SeatView) (answer : Answer) → is_unrecorded answer ≡ false → IsEntered act old answer new
    → filter_map act_in new.entries ≡ filter_map act_in old.entries ++ act ∷ []
entered_began act old new answer told (inl (recorded, going, goes, follows)) = began old.entries new.entries act (Some answer) follows
entered_began act old new answer told (inr (outside, left)) = absurd (let no : false ≡ true = sym told ∙ outside in cc)

-- the number from which is drawn after one round more
pub one_round : (done state : ℕ) → next_state (next_state (next_state (state_after done state))) ≡ state_after (done + 1) state
one_round done state = rw add-one refl

-- one round more
pub round_more : (client keys done first : ℕ) (old new : SeatView) (answer : Answer) → old.name.client ≡ client → filter_map act_in old.entries ≡ acts_drawn client keys done first
    → is_unrecorded answer ≡ false → IsOperation (act_of_round old.name.client keys (done + 1) (round_from keys (state_after done first))) old answer new
    → filter_map act_in new.entries ≡ acts_drawn client keys (done + 1) first
round_more client keys done first old new answer same h told served =
    entered_began (act old.name.client) old new answer told served.entered
    ∙ ap (λ (c : ℕ). filter_map act_in old.entries ++ act c ∷ []) same
    ∙ ap (λ (l : List Act). l ++ act client ∷ []) h
    ∙ sym (map-range_with_len_more (λ at. act_of_round client keys (at + 1) (round_from keys (state_after at first))) 0 done done (omega arith))
  where
    act : ℕ → Act
    act c = act_of_round c keys (done + 1) (round_from keys (state_after done first))

-- ---- what a round begins

-- by the kind that it drew
of_kind : (keys nth : ℕ) (round : DrawnRound) (which : RoundKind) (act : Act) (old new : SeatView) (answer : Answer) → round.kind ≡ which
    → act_of_kind which old.name.client (take (min round.count 4) (four_keys round.first keys)) nth round.searches_even ≡ act → IsOperation act old answer new
    → IsOperation (act_of_round old.name.client keys nth round) old answer new
of_kind keys nth round which act old new answer is same served =
    subst (λ (k : RoundKind). IsOperation (act_of_kind k old.name.client (take (min round.count 4) (four_keys round.first keys)) nth round.searches_even) old answer new) (sym is)
    (subst (λ (a : Act). IsOperation a old answer new) (sym same) served)

pub puts : (keys nth : ℕ) (round : DrawnRound) (items : List Item) (old new : SeatView) (answer : Answer) → round.kind ≡ Put
    → items ≡ take (min round.count 4) (map (item_of_round nth) (four_keys round.first keys)) → IsOperation (PutAct old.name.client items) old answer new
    → IsOperation (act_of_round old.name.client keys nth round) old answer new
puts keys nth round items old new answer is same = of_kind keys nth round Put (PutAct old.name.client items) old new answer is
    (ap (PutAct old.name.client) (sym (take-map (item_of_round nth) (min round.count 4) (four_keys round.first keys)) ∙ sym same))

pub gets : (keys nth : ℕ) (round : DrawnRound) (all : List (List ℕ)) (old new : SeatView) (answer : Answer) → round.kind ≡ Get
    → all ≡ take (min round.count 4) (four_keys round.first keys) → IsOperation (GetAct old.name.client all) old answer new
    → IsOperation (act_of_round old.name.client keys nth round) old answer new
gets keys nth round all old new answer is same = of_kind keys nth round Get (GetAct old.name.client all) old new answer is (ap (GetAct old.name.client) (sym same))

pub finds : (keys nth : ℕ) (round : DrawnRound) (tag : List ℕ) (old new : SeatView) (answer : Answer) → round.kind ≡ Find → tag ≡ tag_of round.searches_even
    → IsOperation (FindAct old.name.client tag) old answer new → IsOperation (act_of_round old.name.client keys nth round) old answer new
finds keys nth round tag old new answer is same = of_kind keys nth round Find (FindAct old.name.client tag) old new answer is (ap (FindAct old.name.client) (sym same))
