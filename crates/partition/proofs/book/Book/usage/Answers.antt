use Rattle.partition.proofs.book.Book.usage.Goals as goal

pub returns : goal.returns
returns c account at = record {
  held = λ log leaves. c.holdings.ensures account at log leaves;
  served = (c.places-served.ensures account at).0;
  epoch = (c.places-served.ensures account at).1;
}
