-- From the refusals in their parts to the answer, and from what was counted and written to the reading's records and index.
mod Refusing
mod Finding
