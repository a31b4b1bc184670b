-- Calls that are staged one behind the other: for the functions of an operation.
use Rattle.std.proofs.Common.{◌≡◌, ◌≤◌, ◌+◌, ℕ, List, [], ◌∷◌, ◌++◌, Option, Some, length, take, slice_get, sym, ap, subst, ◌∙◌, refl, arith}
use Rattle.std.proofs.lemmas.List.{append_assoc, append-nil, take_more, take_all, length-take-le}
use Rattle.std.proofs.lemmas.Option.{slice_get_within, get_or_from_slice_get}
use Rattle.std.specs.Global.{Box}
use Rattle.plain_store.specs.declared.message.Message.{Message}
use Rattle.history.specs.declared.rule.Naming.{Ghosts}
use Rattle.shard.specs.Asked.{without_reply}
use Rattle.shard.specs.Homes.{place_of}
use Rattle.shard.specs.declared.shard.CallState.TheVariants.{Pending}
use Rattle.shard.specs.declared.shard.Staged.{Staged}
use Rattle.shard.specs.declared.seat_name.SeatName.{SeatName}
use Rattle.hub.specs.Staging.{IsStagedFor, IsStagedNext, AreStagedFor, AreStagedBehind}

-- nothing was staged yet
pub behind-start : {G : Type 0} {naming : Ghosts G} (name : SeatName) (parts nth : ℕ) (calls : List (Staged G naming)) → AreStagedBehind name parts nth [] calls calls
behind-start {G} {naming} name parts nth calls = record { more = []; is = sym (append-nil calls); staged = tt }

-- one more of them
for-more : {G : Type 0} {naming : Ghosts G} (name : SeatName) (parts nth : ℕ) (messages : List Message) (calls : List (Staged G naming)) (message : Message) (staged : Staged G naming) → AreStagedFor name parts nth messages calls
    → IsStagedFor name parts (nth + length messages) staged → without_reply staged.call.message.value ≡ message → AreStagedFor name parts nth (messages ++ message ∷ []) (calls ++ staged ∷ [])
for-more {G} {naming} name parts nth [] [] message staged are its is =
    let P : ℕ → Type 0 = λ n. IsStagedFor name parts n staged in
    let here : nth + 0 ≡ nth = omega arith in
    (is, subst P here its, tt)
for-more {G} {naming} name parts nth [] (s ∷ ss) message staged are its is = absurd are
for-more {G} {naming} name parts nth (m ∷ ms) [] message staged are its is = absurd are
for-more {G} {naming} name parts nth (m ∷ ms) (s ∷ ss) message staged are its is =
    let P : ℕ → Type 0 = λ n. IsStagedFor name parts n staged in
    let there : nth + length (m ∷ ms) ≡ nth + 1 + length ms = omega arith in
    (are.0, are.1, for-more name parts (nth + 1) ms ss message staged are.2 (subst P there its) is)

-- the next of these messages
pub behind-more : {G : Type 0} {naming : Ghosts G} (name : SeatName) (parts nth at : ℕ) (messages : List Message) (old now new : List (Staged G naming)) → AreStagedBehind name parts nth (take at messages) old now
    → IsStagedNext name parts (nth + at) (slice_get messages at) now new → AreStagedBehind name parts nth (take (at + 1) messages) old new
behind-more {G} {naming} name parts nth at messages old now new so_far next =
    let message : Message = without_reply next.staged.call.message.value in
    let within = slice_get_within messages at message next.in_message in
    let is = take_more messages at message within ∙ ap (λ m. take at messages ++ m ∷ []) (get_or_from_slice_get messages at message message next.in_message) in
    let long : length (take at messages) ≡ at = length-take-le at messages (omega (arith, within)) in
    let P : List Message → Type 0 = λ ms. AreStagedBehind name parts nth ms old new in
    let Q : ℕ → Type 0 = λ n. IsStagedFor name parts n next.staged in
    subst P (sym is) (record {
      more = so_far.more ++ next.staged ∷ [];
      is = next.is ∙ ap (λ (ss : List (Staged G naming)). ss ++ next.staged ∷ []) so_far.is ∙ append_assoc old so_far.more (next.staged ∷ []);
      staged = for-more name parts nth (take at messages) so_far.more message next.staged so_far.staged (subst Q (ap (λ n. nth + n) (sym long)) next.its) refl;
    })

-- and then all of them
pub behind-all : {G : Type 0} {naming : Ghosts G} (name : SeatName) (parts nth at : ℕ) (messages : List Message) (old new : List (Staged G naming)) → length messages ≤ at → AreStagedBehind name parts nth (take at messages) old new
    → AreStagedBehind name parts nth messages old new
behind-all {G} {naming} name parts nth at messages old new past staged =
    let P : List Message → Type 0 = λ ms. AreStagedBehind name parts nth ms old new in
    subst P (take_all at messages past) staged

-- the same, in other words
pub next-same : {G : Type 0} {naming : Ghosts G} (name other : SeatName) (parts of nth number : ℕ) (message meant : Option Message) (old before new : List (Staged G naming)) → other ≡ name → of ≡ parts → number ≡ nth → meant ≡ message → before ≡ old
    → IsStagedNext other of number meant before new → IsStagedNext name parts nth message old new
next-same {G} {naming} name other parts of nth number message meant old before new named among numbered means was next =
    let P : SeatName → Type 0 = λ n. IsStagedNext n parts nth message old new in
    let Q : ℕ → Type 0 = λ n. IsStagedNext other n nth message old new in
    let R : ℕ → Type 0 = λ n. IsStagedNext other of n message old new in
    let S : Option Message → Type 0 = λ m. IsStagedNext other of number m old new in
    let T : List (Staged G naming) → Type 0 = λ ss. IsStagedNext other of number meant ss new in
    subst P named (subst Q among (subst R numbered (subst S means (subst T was next))))

-- a call was staged in this box
pub staged-as : {G : Type 0} {naming : Ghosts G} (name : SeatName) (parts nth : ℕ) (message : Box Message) (staged : Staged G naming) (old new : List (Staged G naming)) → new ≡ old ++ staged ∷ []
    → staged.call.tenant ≡ name.tenant → staged.call.seat ≡ name.seat → staged.call.number ≡ nth → staged.call.parts ≡ parts
    → staged.call.message ≡ message → staged.call.partition ≡ place_of message.value.call parts message.value.partition → staged.stage ≡ Pending
    → IsStagedNext name parts nth (Some (without_reply message.value)) old new
staged-as {G} {naming} name parts nth message staged old new is tenant seat number among same partition stage =
    let P : Box Message → Type 0 = λ m. staged.call.partition ≡ place_of m.value.call parts m.value.partition in
    record {
      staged = staged;
      is = is;
      its = record { tenant = tenant; seat = seat; number = number; parts = among; partition = subst P (sym same) partition; stage = stage };
      in_message = ap (λ (m : Box Message). Some (without_reply m.value)) (sym same);
    }
