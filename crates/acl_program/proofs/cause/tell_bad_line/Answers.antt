use Rattle.acl_program.proofs.cause.tell_bad_line.Goals as goal

pub returns-in-Limit-clause-ok : goal.returns-in-Limit-clause-ok
returns-in-Limit-clause-ok g c = rw c.in-Limit.is (rw c.format-line.ensures.text at c.write_parts.ensures.ok)

pub returns-in-Limit-clause-err : goal.returns-in-Limit-clause-err
returns-in-Limit-clause-err g c = rw c.in-Limit.is (rw c.format-line.ensures.text at c.write_parts.ensures.err)

pub returns-in-Syntax-clause-ok : goal.returns-in-Syntax-clause-ok
returns-in-Syntax-clause-ok g c = rw c.in-Syntax.is (rw (c.format-line.ensures.text, c.format.ensures.text) at c.write_parts-in-Syntax.ensures.ok)

pub returns-in-Syntax-clause-err : goal.returns-in-Syntax-clause-err
returns-in-Syntax-clause-err g c = rw c.in-Syntax.is (rw (c.format-line.ensures.text, c.format.ensures.text) at c.write_parts-in-Syntax.ensures.err)

pub returns-in-WrongLevel-clause-ok : goal.returns-in-WrongLevel-clause-ok
returns-in-WrongLevel-clause-ok g c = rw c.in-WrongLevel.is (rw (c.format-line.ensures.text, c.name-name.ensures) at c.write_parts-in-WrongLevel.ensures.ok)

pub returns-in-WrongLevel-clause-err : goal.returns-in-WrongLevel-clause-err
returns-in-WrongLevel-clause-err g c = rw c.in-WrongLevel.is (rw (c.format-line.ensures.text, c.name-name.ensures) at c.write_parts-in-WrongLevel.ensures.err)

pub returns-in-NoMemory-clause-ok : goal.returns-in-NoMemory-clause-ok
returns-in-NoMemory-clause-ok g c = rw c.in-NoMemory.is (rw c.format-line.ensures.text at c.write_parts-in-NoMemory.ensures.ok)

pub returns-in-NoMemory-clause-err : goal.returns-in-NoMemory-clause-err
returns-in-NoMemory-clause-err g c = rw c.in-NoMemory.is (rw c.format-line.ensures.text at c.write_parts-in-NoMemory.ensures.err)
