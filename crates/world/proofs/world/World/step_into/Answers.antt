use Rattle.std.proofs.Common.{◌≡◌, List, [], ◌∷◌, ◌++◌, length, take, drop, set, slice_get, Some, refl, sym, ap, ◌∙◌, subst, arith}
use Rattle.std.specs.Prelude.{All, IfOk, OnOk, OnErr}
use Rattle.world.specs.Promises.{IsPromisedAfter}
use Rattle.std.proofs.lemmas.Option.{slice_get_read}
use Rattle.plain_store.specs.declared.step.Step.{Step}
use Rattle.plain_store.specs.Tenants.{store_answer}
use Rattle.partition.specs.declared.shelf.Shelf.{Shelf}
use Rattle.world.specs.declared.tenant.Tenant.{Tenant}
use Rattle.world.specs.Content.{WorldContent, parts_of, limits_of}
use Rattle.world.specs.Standing.{StandsFor, IsWorld, OthersStay, ServesOrStays, answered_in_place}
use Rattle.world.proofs.Results.{if_ok_map, if_ok_both, replaced, each_ok, each_err, first_part, last_part}
use Rattle.world.proofs.Worlds.{SendsFewRows, no_tenant, stands_anyway, steps, steps_ask, steps_few, no_promise, is_world, limits_stay}
use Rattle.std.proofs.lemmas.List.Elements.{All-push}
use Rattle.plain_store.specs.Words.{IsAct}
use Rattle.world.specs.Memory.{StepAsksLast}
use Rattle.world.proofs.Promised.{promised, calls_of_steps}
use Rattle.world.proofs.world.World.step_into.Goals as goal

-- the tenant at its place, and what its step does
module _ (c : goal.After-self-2-1) where
  abbrev shelves : List Shelf
  shelves = c.self.inside.shelves.items

  abbrev tenants : List Tenant
  tenants = c.self.inside.tenants.items

  abbrev old : Tenant
  old = c.index_mut-tenant.result.now

  abbrev world : WorldContent
  world = record { shelves = shelves; tenants = tenants }

  abbrev world' : WorldContent
  world' = record { shelves = c.step.new.shelves; tenants = set tenants c.args.step.now.tenant c.step.new.self }

  here : slice_get tenants c.args.step.now.tenant ≡ Some old
  here = slice_get_read tenants (length tenants) c.args.step.now.tenant old refl (omega (arith, c.len.ensures, c.if-place-len.false)) c.index_mut-tenant.ensures.value

  others : OthersStay shelves c.step.new.shelves c.args.step.now.tenant
  others = subst (λ ss. OthersStay ss c.step.new.shelves c.args.step.now.tenant) c.deref_mut.ensures.value c.step.ensures.others

  serves : ServesOrStays old c.step.new.self shelves c.step.new.shelves c.args.step.now.tenant c.args.step.now.act (answered_in_place c.step.result c.step.new.answer)
  serves = subst (λ ss. ServesOrStays old c.step.new.self ss c.step.new.shelves c.args.step.now.tenant c.args.step.now.act (answered_in_place c.step.result c.step.new.answer)) c.deref_mut.ensures.value c.step.ensures.serves

  items : take c.self.inside.shelves.len (c.step.new.shelves ++ drop (length c.step.new.shelves) shelves) ≡ c.step.new.shelves
  items = replaced c.self.inside.shelves.len shelves c.step.new.shelves others.parts (ap length (sym c.deref_mut.ensures.value) ∙ c.deref_mut.ensures.len)

  all : IfOk (answered_in_place c.step.result c.step.new.answer) (λ answer. (before : List Step) → StandsFor world before → (answer ≡ store_answer (parts_of world) (limits_of world) before c.args.step.now) × StandsFor world' (before ++ c.args.step.now ∷ []))
  all = each_ok (answered_in_place c.step.result c.step.new.answer) (StandsFor world) (λ answer before. (answer ≡ store_answer (parts_of world) (limits_of world) before c.args.step.now) × StandsFor world' (before ++ c.args.step.now ∷ [])) (StandsFor world')
      (steps shelves c.step.new.shelves tenants c.args.step.now.tenant old c.step.new.self here others c.step.ensures.limits c.args.step.now (answered_in_place c.step.result c.step.new.answer) refl c.read_client.ensures serves)

  none : OnErr (answered_in_place c.step.result c.step.new.answer) ((before : List Step) → StandsFor world before → StandsFor world' before)
  none = each_err (answered_in_place c.step.result c.step.new.answer) (StandsFor world) (λ answer before. (answer ≡ store_answer (parts_of world) (limits_of world) before c.args.step.now) × StandsFor world' (before ++ c.args.step.now ∷ [])) (StandsFor world')
      (steps shelves c.step.new.shelves tenants c.args.step.now.tenant old c.step.new.self here others c.step.ensures.limits c.args.step.now (answered_in_place c.step.result c.step.new.answer) refl c.read_client.ensures serves)

  -- the world behind the step
  abbrev after : WorldContent
  after = record { shelves = take c.self.inside.shelves.len (c.step.new.shelves ++ drop (length c.step.new.shelves) shelves); tenants = set tenants c.args.step.now.tenant c.step.new.self }

pub invariant_of-self : goal.invariant_of-self
invariant_of-self c =
    subst (λ ss. IsWorld ss (set (tenants c) c.args.step.now.tenant c.step.new.self)) (sym (items c))
    (is_world (shelves c) c.step.new.shelves (tenants c) c.args.step.now.tenant (old c) c.step.new.self (here c) (others c) c.step.ensures.limits c.self.invariant)

-- what is answered, and what the world then stands for
answered : (c : goal.After-self-2-1) → IfOk (answered_in_place c.step.result c.step.new.answer) (λ answer. (before : List Step) → StandsFor c.args.self.now before → answer ≡ store_answer (parts_of c.args.self.now) (limits_of c.args.self.now) before c.args.step.now)
answered c =
    subst (λ w. IfOk (answered_in_place c.step.result c.step.new.answer) (λ answer. (before : List Step) → StandsFor w before → answer ≡ store_answer (parts_of w) (limits_of w) before c.args.step.now)) c.self.view_is
    (first_part (answered_in_place c.step.result c.step.new.answer) (StandsFor (world c)) (λ answer before. answer ≡ store_answer (parts_of (world c)) (limits_of (world c)) before c.args.step.now) (λ before. StandsFor (world' c) (before ++ c.args.step.now ∷ [])) (all c))

stood : (c : goal.After-self-2-1) → OnOk (answered_in_place c.step.result c.step.new.answer) ((before : List Step) → StandsFor c.args.self.now before → StandsFor (after c) (before ++ c.args.step.now ∷ []))
stood c =
    subst (λ ss. OnOk (answered_in_place c.step.result c.step.new.answer) ((before : List Step) → StandsFor c.args.self.now before → StandsFor (record { shelves = ss; tenants = set (tenants c) c.args.step.now.tenant c.step.new.self }) (before ++ c.args.step.now ∷ []))) (sym (items c))
    (subst (λ w. OnOk (answered_in_place c.step.result c.step.new.answer) ((before : List Step) → StandsFor w before → StandsFor (world' c) (before ++ c.args.step.now ∷ []))) c.self.view_is
    (last_part (answered_in_place c.step.result c.step.new.answer) (StandsFor (world c)) (λ answer before. answer ≡ store_answer (parts_of (world c)) (limits_of (world c)) before c.args.step.now) (λ before. StandsFor (world' c) (before ++ c.args.step.now ∷ [])) (all c)))

-- ---- promises

now_valid : (c : goal.After-self-2-1) (before : List Step) → StandsFor c.args.self.now before → All (λ (s : Step). IsAct s.act) (before ++ c.args.step.now ∷ [])
now_valid c before stands = All-push (λ (s : Step). IsAct s.act) before c.args.step.now stands.valid c.read_client.ensures

-- the step sends few messages
few_rows : (c : goal.After-self-2-1) → IfOk (answered_in_place c.step.result c.step.new.answer) (λ answer. (before : List Step) → StandsFor c.args.self.now before → SendsFewRows (parts_of c.args.self.now) (limits_of c.args.self.now) before c.args.step.now)
few_rows c =
    subst (λ w. IfOk (answered_in_place c.step.result c.step.new.answer) (λ answer. (before : List Step) → StandsFor w before → SendsFewRows (parts_of w) (limits_of w) before c.args.step.now)) c.self.view_is
    (steps_few (shelves c) c.step.new.shelves (tenants c) c.args.step.now.tenant (old c) c.step.new.self (here c) (others c) c.step.ensures.limits c.args.step.now (answered_in_place c.step.result c.step.new.answer) refl (serves c))

-- ---- the step

pub returns-then-place-len : goal.returns-then-place-len
returns-then-place-len c =
    let stay : (before : List Step) → StandsFor c.args.self.now before → StandsFor c.args.self.now (before ++ c.args.step.now ∷ []) = λ before stands.
    stands_anyway c.args.self.now c.args.step.now before (omega (arith, c.len.ensures, c.if-place-len.true, ap (λ (w : WorldContent). length w.tenants) c.self.view_is)) c.read_client.ensures stands in
    record {
      answer = λ before stands.
          no_tenant c.args.self.now c.args.step.now before (omega (arith, c.len.ensures, c.if-place-len.true, ap (λ (w : WorldContent). length w.tenants) c.self.view_is));
      stands = stay;
      unchanged = tt;
      asks = tt;
      promised = λ before stands its there.
          absurd (no_promise c.args.self.now c.args.step.now (omega (arith, c.len.ensures, c.if-place-len.true, ap (λ (w : WorldContent). length w.tenants) c.self.view_is)) its there);
      calls = λ before stands. calls_of_steps c.args.self.now (before ++ c.args.step.now ∷ []) (stay before stands);
      parts = refl;
      limits = refl;
    }

pub returns : goal.returns
returns c = record {
  answer = answered c;
  stands = stood c;
  unchanged =
      subst (λ ss. OnErr (answered_in_place c.step.result c.step.new.answer) ((before : List Step) → StandsFor c.args.self.now before → StandsFor (record { shelves = ss; tenants = set (tenants c) c.args.step.now.tenant c.step.new.self }) before)) (sym (items c))
      (subst (λ w. OnErr (answered_in_place c.step.result c.step.new.answer) ((before : List Step) → StandsFor w before → StandsFor (world' c) before)) c.self.view_is (none c));
  asks =
      subst (λ w. StepAsksLast w c.args.step.now (answered_in_place c.step.result c.step.new.answer)) c.self.view_is
      (steps_ask (shelves c) c.step.new.shelves (tenants c) c.args.step.now.tenant (old c) c.step.new.self (here c) (others c) c.step.ensures.limits c.args.step.now (answered_in_place c.step.result c.step.new.answer) refl c.step.ensures.asks);
  promised =
      if_ok_both (answered_in_place c.step.result c.step.new.answer) _ _ (λ answer. (before : List Step) → StandsFor c.args.self.now before → IsPromisedAfter (parts_of c.args.self.now) (limits_of c.args.self.now) before c.args.step.now answer)
      (λ answer is few before stands its there.
      promised (parts_of c.args.self.now) (limits_of c.args.self.now) before c.args.step.now answer (now_valid c before stands) (is before stands) its there (few before stands its there))
      (answered c) (few_rows c);
  calls = if_ok_map (answered_in_place c.step.result c.step.new.answer) _ _ (λ answer all before stands. calls_of_steps _ (before ++ c.args.step.now ∷ []) (all before stands)) (stood c);
  parts = ap length (items c) ∙ (others c).parts ∙ ap parts_of c.self.view_is;
  limits =
      limits_stay (shelves c) c.step.new.shelves (tenants c) c.args.step.now.tenant (old c) c.step.new.self (here c) (others c) c.step.ensures.limits ∙ ap limits_of c.self.view_is;
}
