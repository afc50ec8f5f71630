use Rattle.catalog.proofs.Described.{document_read, document_from}
use Rattle.catalog.proofs.laws.documents_are_read_as_described.Goals as goal

pub returns : goal.returns
returns c = λ doc ts. (document_read doc ts, document_from doc ts)
