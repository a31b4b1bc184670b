use Rattle.std.proofs.Common.{◌≡◌, List, ℕ, Some, codes, map, refl, sym, ap, ◌∙◌, inl}
use Rattle.clap.specs.Words.{all_of, found_of, rows_of}
use Rattle.clap.proofs.WalkLemmas.{raw_values-rows}
use Rattle.command_line.proofs.OptionsGiven.{no_names, bad_names}
use Rattle.command_line.proofs.options.read_store.Goals as goal

pub returns-in_default-clause-error : goal.returns-in_default-clause-error
returns-in_default-clause-error c = inl (refl, λ parts limits names store. c.in_default.ensures.none parts store.gives_parts)

pub returns-in_default-read_limits-clause-error : goal.returns-in_default-read_limits-clause-error
returns-in_default-read_limits-clause-error c = inl (refl, λ parts limits names store. c.in_default-read_limits.ensures.none limits store.gives_limits)

pub returns-in_default-get_raw-clause-error : goal.returns-in_default-get_raw-clause-error
returns-in_default-get_raw-clause-error c =
    let found = found_of c.args.sim.now in
    inl (refl, no_names (rows_of found) (sym (raw_values-rows found (codes "tenant")) ∙ sym c.in_default-get_raw.ensures))

pub returns-in_default-2-clause-error : goal.returns-in_default-2-clause-error
returns-in_default-2-clause-error c =
    let found = found_of c.args.sim.now in
    let words = map (λ word. word.now) c.in-Some-get_raw.words.now in
    inl (refl, bad_names (rows_of found) words (sym (raw_values-rows found (codes "tenant")) ∙ sym c.in-Some-get_raw.ensures) (rw c.in_default-2.is at c.in_ok-names.ensures.none))

pub returns-clause-store : goal.returns-clause-store
returns-clause-store c =
    let found = found_of c.args.sim.now in
    let words : List (List ℕ) = map (λ word. word.now) c.in-Some-get_raw.words.now in
    let given : all_of (codes "tenant") (rows_of found) ≡ Some words = sym (raw_values-rows found (codes "tenant")) ∙ sym c.in-Some-get_raw.ensures in
    let are_words : c.in-Some-2.names.items ≡ words = rw c.in-Some-2.is at c.in_ok-names.ensures.names in
    record {
      gives_parts = c.in-Some.ensures.parts;
      gives_limits = c.in-Some-read_limits.ensures.limits;
      of_names = given ∙ ap Some (sym are_words);
      tenants = rw c.in-Some-2.is at c.in_ok-names.ensures.tenants;
    }
