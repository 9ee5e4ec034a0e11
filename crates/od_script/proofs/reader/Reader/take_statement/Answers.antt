use Rattle.od_script.proofs.reader.Reader.take_statement.Goals as goal

pub returns-in-Rules : goal.returns-in-Rules
returns-in-Rules c line = rw c.in-Rules.is (c.take_rules.ensures line)

pub returns-in-Document : goal.returns-in-Document
returns-in-Document c line = rw c.in-Document.is (c.take_document.ensures line)

pub returns-in-Query : goal.returns-in-Query
returns-in-Query c line = rw c.in-Query.is (c.without_block.ensures _ _ (c.take_query.ensures line c.args.behind.now))

pub returns-in-Client : goal.returns-in-Client
returns-in-Client c line = rw c.in-Client.is (c.without_block-in-Client.ensures _ _ (c.take_client.ensures line c.args.behind.now))

pub returns-in-Order : goal.returns-in-Order
returns-in-Order c line = rw c.in-Order.is (c.without_block-in-Order.ensures _ _ (c.take_order.ensures line c.args.behind.now))
