-- The calls of a round that are taken out one after the other.
use Rattle.std.proofs.Common.{◌≡◌, ◌<◌, ◌≤◌, ◌+◌, ◌-◌, ℕ, suc, List, [], ◌∷◌, ◌++◌, Bool, true, false, cond, length, take, drop, get_or, Result, Ok, refl, sym, ap, subst, ⊎_elim, ◌∙◌, arith, add-one, length-drop, length-take}
use Rattle.std.specs.List.{count_by, remove}
use Rattle.std.proofs.lemmas.List.{take-append-drop, drop-append-le, drop_more}
use Rattle.std.proofs.lemmas.Option.{slice_get_cases}
use Rattle.std.proofs.lemmas.List.Sums.{count_by-le-length, sum_by-append, sum_by-cons, sum_by-drop_more}
use Rattle.history.specs.declared.rule.Naming.{Ghosts}
use Rattle.shard.specs.declared.shard.Staged.{Staged}
use Rattle.std.specs.Prelude.{IsOkAnd}
use Rattle.shard.specs.declared.jobs.SeatReply.{SeatReply}
use Rattle.shard.specs.declared.seat_call.SeatCall.{SeatCall}
use Rattle.hub.specs.Staging.{is_unserved, unserved, IfFirst, IsFirstOf, IsReplyOf}

-- nothing is left behind the last
pub none-past : {G : Type 0} {naming : Ghosts G} (calls : List (Staged G naming)) (at : ℕ) → length calls ≤ at → unserved at calls ≡ 0
none-past {G} {naming} calls at past = omega (arith, count_by-le-length is_unserved (drop at calls), length-drop at calls)

-- no more than are staged
pub unserved-staged : {G : Type 0} {naming : Ghosts G} (calls : List (Staged G naming)) (from : ℕ) → unserved from calls ≤ length calls - from
unserved-staged {G} {naming} calls from = omega (arith, count_by-le-length is_unserved (drop from calls), length-drop from calls)

-- one that was served is passed
pub unserved-passed : {G : Type 0} {naming : Ghosts G} (calls : List (Staged G naming)) (at : ℕ) (other : Staged G naming) → at < length calls → is_unserved (get_or calls at other) ≡ false
    → unserved (at + 1) calls ≡ unserved at calls
unserved-passed {G} {naming} calls at other within is =
    let Q : Bool → ℕ = λ b. cond b 1 0 in
    let one = ap Q is in
    omega (arith, sum_by-drop_more (λ s. cond (is_unserved s) 1 0) calls at other within, one)

-- ---- the first that was not served is taken out

pub removed-first : {G : Type 0} {naming : Ghosts G} (calls : List (Staged G naming)) (from at : ℕ) (staged : Staged G naming) → from ≤ at → at < length calls → staged ≡ get_or calls at staged
    → unserved at calls ≡ unserved from calls → is_unserved staged ≡ true → IsFirstOf from calls staged.call (remove calls at)
removed-first {G} {naming} calls from at staged before within is passed waits =
    let long : from ≤ length (take at calls) = omega (arith, length-take at calls) in
    let apart : drop from calls ≡ drop from (take at calls) ++ drop at calls =
    ap (drop from) (sym (take-append-drop at calls)) ∙ drop-append-le from (take at calls) (drop at calls) long in
    let counts = sum_by-append (λ s. cond (is_unserved s) 1 0) (drop from (take at calls)) (drop at calls) in
    let whole = ap (λ (ss : List (Staged G naming)). count_by is_unserved ss) apart in
    record {
      before = drop from (take at calls);
      staged = staged;
      after = drop (suc at) calls;
      was = apart ∙ ap (λ ss. drop from (take at calls) ++ ss) (drop_more calls at staged within ∙ (λ i. sym is i ∷ drop (add-one at i) calls));
      is = drop-append-le from (take at calls) (drop (suc at) calls) long;
      others = omega (arith, counts, whole, passed);
      waits = waits;
      taken = refl;
    }

pub first-left : {G : Type 0} {naming : Ghosts G} (from : ℕ) (old : List (Staged G naming)) (call : SeatCall G naming) (new : List (Staged G naming)) → IsFirstOf from old call new → unserved from old ≡ unserved from new + 1
first-left {G} {naming} from old call new first =
    let count : List (Staged G naming) → ℕ = λ ss. count_by is_unserved ss in
    let Q : Bool → ℕ = λ b. cond b 1 0 in
    let was = ap count first.was ∙ sum_by-append _ first.before (first.staged ∷ first.after) in
    let one = sum_by-cons (λ (s : Staged G naming). cond (is_unserved s) 1 0) first.staged first.after in
    let is = ap count first.is ∙ sum_by-append _ first.before first.after in
    let waits = ap Q first.waits in
    omega (arith, was, one, is, waits)

-- the same, as the loop has it that looked for it
pub taken-out : {G : Type 0} {naming : Ghosts G} (old now new : List (Staged G naming)) (from since at : ℕ) (staged : Staged G naming) → now ≡ old → since ≡ from → since ≤ at → at < length now → staged ≡ get_or now at staged
    → unserved at now ≡ unserved since now → is_unserved staged ≡ true → new ≡ remove now at → IsFirstOf from old staged.call new
taken-out {G} {naming} old now new from since at staged same since_is before within is passed waits removed =
    let P : ℕ → Type 0 = λ n. IsFirstOf n old staged.call new in
    let Q : List (Staged G naming) → Type 0 = λ ss. IsFirstOf since ss staged.call new in
    let R : List (Staged G naming) → Type 0 = λ ss. IsFirstOf since now staged.call ss in
    subst P since_is (subst Q same (subst R (sym removed) (removed-first now since at staged before within is passed waits)))

-- and passes one that was served
pub passed-one : {G : Type 0} {naming : Ghosts G} (calls : List (Staged G naming)) (at : ℕ) → at < length calls → ((other : Staged G naming) → is_unserved (get_or calls at other) ≡ false) → unserved (at + 1) calls ≡ unserved at calls
passed-one {G} {naming} calls at within is =
    ⊎_elim (λ h. unserved-passed calls at h.0 within (is h.0)) (λ h. absurd (omega (arith, h.0, within))) (slice_get_cases calls at).1

-- what is said of the first of them is said otherwise
pub if_first : {G : Type 0} {naming : Ghosts G} (calls : List (Staged G naming)) (P Q : Staged G naming → Type 0) → ((staged : Staged G naming) → P staged → Q staged) → IfFirst calls P → IfFirst calls Q
if_first {G} {naming} [] P Q so first = tt
if_first {G} {naming} (staged ∷ calls) P Q so first = so staged first

-- what came is a reply to the first of them
pub first_replied : {G E : Type 0} {naming : Ghosts G} (calls : List (Staged G naming)) (result : Result (SeatReply G naming) E) (reply : SeatReply G naming) → result ≡ Ok reply
    → IfFirst calls (λ (staged : Staged G naming). IsOkAnd result (IsReplyOf staged)) → IfFirst calls (λ (staged : Staged G naming). IsReplyOf staged reply)
first_replied {G} {E} {naming} calls result reply is first =
    let P : Result (SeatReply G naming) E → Type 0 = λ r. IfFirst calls (λ (staged : Staged G naming). IsOkAnd r (IsReplyOf staged)) in
    subst P is first
