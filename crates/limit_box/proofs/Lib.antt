mod Chains
mod HandedOn
mod Hearing
mod Numbers
