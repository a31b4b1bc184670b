use Rattle.version_chain.proofs.chains.Chains.open.Goals as goal

pub returns : goal.returns
returns c = λ i. record {
  tenant = c.args.tenant;
  share = c.args.cells;
  used = 0;
  heads = c.in_ok-open.ensures.heads i;
  latest = c.in_ok-open.ensures.latest i;
  kept = (c.in_ok-open-2.ensures i).kept;
}
